-- `legality::places::is_free` meets its contract: the grid decides, or the walls do.
use Rattle.laws.proofs.CodeTests.{decides}
use Rattle.floor.specs.Checks.{in_grid}
use Rattle.legality.specs.Inner.{free_on}
use Rattle.legality.proofs.places.is_free.Goals as goal

pub returns-else-c-f : goal.returns-else-c-f
unfolding free_on in_grid
returns-else-c-f c = search decides

pub returns-then-c-f : goal.returns-then-c-f
unfolding free_on in_grid
returns-then-c-f c = search decides
