-- `maps::marks::is_dock` meets its contract: the cell is among the docks that are counted.
use Rattle.floor.specs.Checks.{is_dock, count_of}
use native.Mathlib.Omega.{arith}
use Rattle.maps.proofs.marks.is_dock.Goals as goal

pub is_among-requires : goal.is_among-requires
unfolding count_of
is_among-requires c =
    omega (arith, c.requires.0.counted c.args.i c.requires.1)

pub returns : goal.returns
unfolding is_dock count_of
returns c =
    rw (← c.docks_of-docks.ensures) c.is_among.ensures
