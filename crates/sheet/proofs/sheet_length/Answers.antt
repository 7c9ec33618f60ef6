-- `sheet::sheet_length` meets its contract: the figure of the definition.
use Rattle.sheet.specs.Text.{sheet_length, wall_at}
use native.Mathlib.Omega.{arith}
use Rattle.sheet.proofs.sheet_length.Goals as goal

pub returns : goal.returns
unfolding sheet_length wall_at
returns c = omega (arith, c.walls_at.ensures.0)
