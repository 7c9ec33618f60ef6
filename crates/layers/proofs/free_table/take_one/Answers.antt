-- `layers::free_table::take_one` meets its contract. The loop's invariant: the view's cells at the beats passed are taken out.
-- Assumes nothing.
use native.Mathlib.Omega.{arith}
use mathlib.Core.Path.{◌≡◌, sym, ◌∙◌}
use Rattle.layers.proofs.TakenLaws.{taken_none, taken_more, taken_parked}
use Rattle.layers.proofs.FreeTableLaws.{free_table_more}
use Rattle.layers.proofs.free_table.take_one.Goals as goal

pub parked_from-a-requires : goal.parked_from-a-requires
parked_from-a-requires c =
    (c.requires.1, omega (arith, c.requires.2))

pub loop-t-init : goal.loop-t-init
loop-t-init c =
    taken_none _ _ _ _ c.requires.3

pub view_cell-c-requires : goal.view_cell-c-requires
view_cell-c-requires c =
    (c.requires.1, omega (arith, c.requires.2, c.parked_from-a.ensures.upto, c.loop-t-test.true))

pub drop_cell-requires : goal.drop_cell-requires
drop_cell-requires c = (
  c.requires.0,
  omega (arith, c.saturating_sub.ensures),
  omega (arith, c.requires.2, c.parked_from-a.ensures.upto, c.loop-t-test.true),
  c.loop-t.invariant.tidy,
)

pub loop-t-preserved : goal.loop-t-preserved
loop-t-preserved c =
    taken_more _ _ _ _ _ _ _ _ _ c.loop-t.invariant c.saturating_sub.ensures c.view_cell-c.ensures.0 c.drop_cell.ensures

pub drop_cell-requires-2 : goal.drop_cell-requires-2
drop_cell-requires-2 c = (
  c.requires.0,
  omega (arith, c.saturating_sub-2.ensures, c.parked_from-a.ensures.upto),
  omega (arith, c.requires.2),
  c.loop-t.invariant.tidy,
)

pub shape_of-table : goal.shape_of-table
shape_of-table c =
    c.drop_cell-2.ensures.tidy.long ∙ sym c.requires.3.long

pub returns : goal.returns
returns c =
    let v = c.loop-t.invariant in
    let e : c.loop-t.t ≡ c.parked_from-a.result = omega arith in
    let taken = taken_parked _ _ _ _ _ _ _ _ _ c.parked_from-a.ensures (rw e at v)
    c.saturating_sub-2.ensures c.view_cell-last.ensures.0 c.drop_cell-2.ensures in
    λ free old. free_table_more _ _ _ _ _ _ c.requires.0.narrow c.requires.0.low c.requires.2 taken old
