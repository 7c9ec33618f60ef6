-- `layers::free_table::drop_cell` meets its contract. The loop's invariant: the cell is out of the beats passed, whichever grid has it at
-- this place. Assumes nothing.
use native.Mathlib.Omega.{arith}
use mathlib.Core.Path.{◌≡◌, sym, ap, ◌∙◌}
use lib.ListN.{length}
use Rattle.bitrows.proofs.RowsLaws.{length_dropped}
use Rattle.layers.proofs.TakenLaws.{cell_none, cell_outside, cell_more}
use Rattle.layers.proofs.free_table.drop_cell.Goals as goal

pub loop-t-init : goal.loop-t-init
loop-t-init c =
    (c.requires.3.long, λ g grid cell place tidy. cell_none g _ _ _ tidy)

pub word-requires : goal.word-requires
word-requires c =
    (omega (arith, c.loop-t-test.true, c.requires.2), c.place_of-p.ensures.low)

pub drop-requires : goal.drop-requires
drop-requires c =
    (omega (arith, c.word.ensures.1, c.loop-t.invariant.0), c.place_of-p.ensures.narrow)

pub loop-t-preserved : goal.loop-t-preserved
loop-t-preserved c =
    let v = c.loop-t.invariant in
    let e = c.drop.ensures in (
      ap length e ∙ length_dropped _ _ _ ∙ v.0,
      λ g grid cell place tidy. cell_more g _ _ _ _ _ _ _ _ grid cell (omega arith) (omega (arith, c.loop-t-test.true, c.requires.2)) place
          c.word.ensures.0 (v.1 g grid cell place tidy) e,
    )

pub shape_of-table : goal.shape_of-table
shape_of-table c =
    c.loop-t.invariant.0 ∙ sym c.requires.3.long

pub returns-after-loop-t : goal.returns-after-loop-t
returns-after-loop-t c =
    let v = c.loop-t.invariant in
    let e : c.loop-t.t ≡ c.args.end = omega arith in
    rw e at (v.1 _ c.requires.0 c.if-c-g.true c.place_of-p.ensures c.requires.3)

pub returns-else-c-g : goal.returns-else-c-g
returns-else-c-g c =
    cell_outside _ _ _ _ _ c.requires.3 c.if-c-g.false
