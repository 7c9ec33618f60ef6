-- `layers::stripes::lanes` meets its contract. Assumes nothing.
use mathlib.Core.Path.{refl}
use Rattle.layers.specs.Stripes.{four, lane_of, lanes_of}
use Rattle.layers.proofs.stripes.lanes.Goals as goal

pub returns : goal.returns
unfolding lanes_of lane_of four
returns c =
    rw (
      c.successor_row.ensures,
      c.successor_row-2.ensures,
      c.successor_row-3.ensures,
      c.successor_row-4.ensures,
    ) refl
