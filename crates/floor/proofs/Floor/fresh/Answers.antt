-- `floor::Floor::fresh` meets its contract: the record is that of the definition.
use Rattle.floor.specs.Fresh.{fresh_floor}
use mathlib.Core.Path.{refl}
use Rattle.floor.proofs.Floor.fresh.Goals as goal

pub returns : goal.returns
unfolding fresh_floor
returns c = refl
