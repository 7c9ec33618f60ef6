-- `bitrows::drop_at` meets its contract. A cell's row and column are found without a division; a number that is no cell changes nothing.
-- Assumes nothing.
use Prim.Native.Nat.{◌*◌, ◌-◌, ◌%◌, ◌<◌}
use native.Mathlib.Nat.{mod-lt}
use native.Mathlib.Omega.{arith}
use mathlib.Core.Path.{◌≡◌, ◌∙◌}
use Rattle.bitrows.proofs.RowsLaws.{dropped_inside, dropped_outside, place_row}
use Rattle.bitrows.proofs.drop_at.Goals as goal
use Rattle.bitrows.proofs.drop_at.Goals.{After-row_of-row}

-- The row of a cell is one of 32, and its column is within the width.
inside : (c : After-row_of-row) → (c.row_of-row.result < 32) × (c.args.c % c.args.w < c.args.w)
inside c =
    let low = place_row c.args.w c.args.c (omega arith) (omega arith) in
    (rw c.row_of-row.ensures.0 low, mod-lt c.args.c {m = c.args.w} (omega arith))

pub overflow_add-i : goal.overflow_add-i
overflow_add-i c = omega (arith, inside (goal.at.overflow_add-i c).After-row_of-row)

pub overflow_mul-row : goal.overflow_mul-row
overflow_mul-row c = omega (arith, inside (goal.at.overflow_mul-row c).After-row_of-row)

pub overflow_sub-c : goal.overflow_sub-c
overflow_sub-c c = omega (arith, inside (goal.at.overflow_sub-c c).After-row_of-row)

pub drop-requires : goal.drop-requires
drop-requires c = (omega (arith, inside (goal.at.drop-requires c).After-row_of-row), omega (arith, inside (goal.at.drop-requires c).After-row_of-row))

pub returns-then-c-cells : goal.returns-then-c-cells
returns-then-c-cells c =
    let q : c.args.c - c.row_of-row.result * c.args.w ≡ c.args.c % c.args.w = omega arith in
    c.drop.ensures ∙ (rw (q, c.row_of-row.ensures.0) (dropped_inside _ _ _ _ _ c.if-c-cells.true))

pub returns-else-c-cells : goal.returns-else-c-cells
returns-else-c-cells c = dropped_outside _ _ _ _ _ c.if-c-cells.false
