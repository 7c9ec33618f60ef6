-- `floor::checks::in_grid` meets its contract: the product of two numbers up to 32 fits.
use lib.Dec.{lit<}
use native.Mathlib.Nat.{mul-le-mul, lt_of_le_of_lt}
use Rattle.floor.specs.Checks.{in_grid}
use mathlib.Core.Path.{refl}
use Rattle.floor.proofs.checks.in_grid.Goals as goal

pub overflow_mul-result : goal.overflow_mul-result
overflow_mul-result c = record { fits = lt_of_le_of_lt (mul-le-mul c.requires.0 c.requires.1) (lit< tt) }

pub returns : goal.returns
unfolding in_grid
returns c = refl
