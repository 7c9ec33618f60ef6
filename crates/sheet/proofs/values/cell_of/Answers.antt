-- `sheet::values::cell_of` meets its contract: the tests are those of the definition; products of numbers up to 32 fit.
use Rattle.sheet.specs.Values.{cell_of}
use borrow.Author.Tests.{lt-ltb, le-ltb}
use mathlib.Core.Bool.{and-false}
use Rattle.sheet.proofs.values.cell_of.Goals.{then-width-col-via-then-width-col, then-width-col-via-else-width-col+then-height-row}
use Rattle.sheet.proofs.values.cell_of.Goals as goal

pub returns-then-width-col : goal.returns-then-width-col
unfolding cell_of
returns-then-width-col c =
    elim c.then-width-col.branch [
      | then-width-col-via-then-width-col w ↦ rw (le-ltb _ _ w.if-width-col.true)
      | then-width-col-via-else-width-col+then-height-row w ↦ rw (le-ltb _ _ w.if-height-row.true, and-false _)
    ]

pub returns : goal.returns
unfolding cell_of
returns c = rw (lt-ltb _ _ c.if-width-col.false, lt-ltb _ _ c.if-height-row.false)
