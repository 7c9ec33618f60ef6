-- `sheet::values::cell` meets its contract: the cell of two values.
use Rattle.sheet.specs.Values.{cell_at_column}
use Rattle.sheet.proofs.values.cell.Goals as goal

pub returns : goal.returns
unfolding cell_at_column
returns c = rw (← c.value.ensures, ← c.value-2.ensures) c.cell_of.ensures
