-- `planner::plan_all` meets its contract. The loop's invariant: the answers of the carriers passed stand in front, are shown as they are
-- seen, and the free table is what all but the last of them leave. Assumes nothing.
use Prim.Native.Nat.{ℕ}
use native.Mathlib.Omega.{arith}
use mathlib.Core.List.{[]}
use mathlib.Core.Path.{ap, ◌∙◌}
use borrow.Author.Rules.{rules}
use lib.ListN.{length, length-replicate}
use Rattle.layers.specs.Table.{search_grid_of}
use Rattle.layers.proofs.GridLaws.{scene_grid}
use Rattle.layers.proofs.SetLaws.{empty_tidy}
use Rattle.records.proofs.SeenLaws.{seen_start}
use Rattle.planner.specs.Records.{with_answer}
use Rattle.planner.proofs.PlanLaws.{plan_start, plan_more, plan_keeps, plan_end}
use Rattle.planner.proofs.TableLaws.{table_above}
use Rattle.planner.proofs.plan_all.Goals as goal

pub search_grid_of-requires : goal.search_grid_of-requires
search_grid_of-requires c =
    let able = c.requires.searchable 0 [] c.requires.some (omega arith) in
    (able.width.0, able.width.1, able.height)

pub make-requires : goal.make-requires
unfolding search_grid_of
make-requires c =
    let p = c.requires in
    let able = p.searchable 0 [] p.some (omega arith) in
    let grid = scene_grid c.args.f able.width.0 able.width.1 able.height in
    rw c.search_grid_of.ensures
    (record {
      fits = (record { grid = grid; short = p.horizon; lent = omega arith }, able.clean, able.long);
      table_value = c.empty-table.ensures;
    })

pub loop-i-init : goal.loop-i-init
loop-i-init c = (
  plan_start _ _ c.requires.horizon _,
  rw c.search_grid_of.ensures at c.make.ensures,
  ap length c.blank-shown.ensures ∙ length-replicate {A = ℕ} 520 0,
  seen_start _ _ _,
  empty_tidy _ _ c.empty-sets.ensures,
)

pub plan_one-requires : goal.plan_one-requires
plan_one-requires c =
    let p = c.requires in
    let i = c.loop-i.i in
    let inv = c.loop-i.invariant in
    let size = plan_keeps _ _ p.horizon i _ _ (omega (arith, p.lent)) inv.0 in record {
      i_bound = (omega (arith, p.few), omega (arith, p.lent), omega (arith, p.few, inv.2));
      searchable = (p.searchable i _ c.loop-i-test.true (omega (arith, p.few, inv.2)), inv.3);
      free_table = (inv.1, inv.4);
    }

pub loop-i-preserved : goal.loop-i-preserved
unfolding with_answer
loop-i-preserved c =
    let p = c.requires in
    let made = c.plan_one.ensures in (
      plan_more _ _ p.horizon c.loop-i.i _ _ _ (omega (arith, p.lent)) c.loop-i.invariant.0 made.answers,
      table_above made.table,
      search rules,
      made.shown,
      made.tidy,
    )

pub returns : goal.returns
returns c =
    let p = c.requires in
    plan_end _ _ p.horizon c.loop-i.i _ _ _ (omega arith) c.loop-i-test.false c.loop-i.invariant.0
