-- `planner::plan_one` meets its contract: what the search found, stored with its tag, is the record of its answer; as it is seen it stands
-- beside the others, and the free table without the view just above is what all views above leave. Assumes nothing.
use native.Mathlib.Omega.{arith}
use mathlib.Core.Path.{◌∙◌, ap}
use Rattle.records.specs.Records.{record_of}
use Rattle.records.proofs.SeenLaws.{seen_step}
use Rattle.planner.proofs.PlanLaws.{shown_stored, still_long, still_shows}
use Rattle.planner.proofs.TableLaws.{table_above, table_stored}
use Rattle.planner.proofs.plan_one.Goals as goal

pub route_in-found-requires : goal.route_in-found-requires
route_in-found-requires c =
    let p = c.requires in record {
      searchable = (p.searchable.0, p.free_table.1);
      free_table = table_above (c.take_last.ensures _ p.free_table.0);
    }

pub returns : goal.returns
returns c =
    let found = c.route_in-found in
    let p = c.requires in
    let able = p.searchable.0 in
    let before = p.searchable.1 in
    let rec = c.told-tag.ensures ∙ ap record_of found.ensures.best in
    let e = shown_stored _ _ c.args.i _ _ _ able.horizon p.i_bound.1 before _ rec c.store.ensures in
    let long = still_long _ _ c.args.i _ _ _ able.horizon p.i_bound.1 before e in
    let shows = still_shows _ _ c.args.i _ _ _ able.horizon p.i_bound.1 before e in record {
      answers = e;
      shown = seen_step _ _ _ _ c.args.i able.horizon p.i_bound.2 (omega (arith, p.i_bound, long))
          c.store_seen.ensures shows;
      table = table_stored _ _ _ _ _ _ able _ _ _ (omega (arith, p.i_bound)) c.store_seen.ensures
          (c.take_last.ensures _ p.free_table.0);
      tidy = found.ensures.tidy;
    }
