-- `floor::checks::clear_of_walls` meets its contract: the start decides, or the docks do.
use Rattle.floor.specs.Checks.{clear_of_walls, start_of}
use Rattle.laws.proofs.CodeTests.{decides}
use Rattle.floor.proofs.checks.clear_of_walls.Goals as goal

pub returns-then-is_wall : goal.returns-then-is_wall
unfolding clear_of_walls start_of
returns-then-is_wall c = search decides

pub returns : goal.returns
unfolding clear_of_walls start_of
returns c = search decides
