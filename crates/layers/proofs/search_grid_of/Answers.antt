-- `layers::search_grid_of` meets its contract: the scale of the width, and a product that is small. Assumes nothing.
use native.Mathlib.Omega.{arith}
use Rattle.layers.specs.Table.{search_grid_of}
use Rattle.layers.proofs.GridLaws.{grid_small}
use Rattle.layers.proofs.search_grid_of.Goals as goal

pub overflow_mul-result : goal.overflow_mul-result
overflow_mul-result c =
    omega (
      arith,
      grid_small c.args.f.width c.args.f.height
          c.requires.1 c.requires.2,
    )

pub returns : goal.returns
unfolding search_grid_of
returns c = rw c.scale.ensures
