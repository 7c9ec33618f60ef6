-- `desk::played::put_played` meets its contract: the report, and behind it the routes in the rest of the memory.
use mathlib.Core.Path.{refl}
use lib.ListN.{length-take, length-drop}
use Rattle.reporting.specs.Text.{entry_count, report_length}
use Rattle.reporting.proofs.TextLaws.{both_put}
use Rattle.desk.proofs.PlayedLaws.{routes_within, routes_short, report_ends}
use native.Mathlib.Omega.{arith}
use borrow.Author.Rules.{rules}
use Rattle.desk.proofs.played.put_played.Goals as goal

pub put_report-n-requires : goal.put_report-n-requires
unfolding entry_count report_length
put_report-n-requires c =
    let p = c.requires.1 in
    (omega arith, omega arith)

pub slice_bounds-put_routes-count : goal.slice_bounds-put_routes-count
slice_bounds-put_routes-count c =
    omega (arith, report_ends _ _ _ _ _ _ c.put_report-n.ensures c.requires.1.0, c.requires.1.1)

pub slice_bounds-put_routes-start : goal.slice_bounds-put_routes-start
slice_bounds-put_routes-start c =
    omega (arith, report_ends _ _ _ _ _ _ c.put_report-n.ensures c.requires.1.0, c.requires.1.1)

pub put_routes-requires : goal.put_routes-requires
put_routes-requires c =
    let n = report_ends _ _ _ _ _ _ c.put_report-n.ensures c.requires.1.0 in record {
      walls_value = c.requires.0;
      f_in_bounds = simp (length-take, length-drop) (omega (arith, c.requires.1.1, routes_within _ _ c.requires.0));
    }

pub overflow_add-result : goal.overflow_add-result
overflow_add-result c =
    let n = report_ends _ _ _ _ _ _ c.put_report-n.ensures c.requires.1.0 in
    let k = c.put_routes.ensures.size in
    let short = routes_short _ _ c.requires.0 in
    search rules

pub returns : goal.returns
returns c =
    let p = c.put_report-n.ensures in
    both_put _ _ _ _ _ _ _ _ p c.put_routes.ensures refl
    (omega (arith, p.behind, report_ends _ _ _ _ _ _ p c.requires.1.0, routes_short _ _ c.requires.0, c.requires.1.1))
