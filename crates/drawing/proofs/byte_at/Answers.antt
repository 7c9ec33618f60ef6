-- `drawing::byte_at` meets its contract: a newline behind each row, and the marks of its cells.
use native.Mathlib.Omega.{arith}
use borrow.Author.Tests.{eq-eqb, ne_eqb}
use Rattle.drawing.specs.Drawing.{drawn_byte}
use Rattle.drawing.proofs.DrawingLaws.{LowCell, low_cell}
use Rattle.drawing.proofs.byte_at.Goals as goal
use Rattle.drawing.proofs.byte_at.Goals.{Start}

-- What is known of row and column of byte k at any place.
low : (start : Start) → LowCell start.args.f.width start.args.k
low start = low_cell _ _ start.requires.0 start.requires.1

pub returns-then-column-w : goal.returns-then-column-w
unfolding drawn_byte
returns-then-column-w c = rw (eq-eqb _ _ c.if-column-w.true)

pub overflow_mul-k : goal.overflow_mul-k
overflow_mul-k c = omega (arith, low (goal.at.overflow_mul-k c).Start)

pub overflow_add-k : goal.overflow_add-k
overflow_add-k c = omega (arith, low (goal.at.overflow_add-k c).Start)

pub overflow_cast-k : goal.overflow_cast-k
overflow_cast-k c = omega (arith, low (goal.at.overflow_cast-k c).Start)

pub returns : goal.returns
unfolding drawn_byte
returns c =
    rw (ne_eqb _ _ c.if-column-w.false) c.cell_mark.ensures
