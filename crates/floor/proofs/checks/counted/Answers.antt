-- `floor::checks::counted` meets its contract: each test has its own answer.
use Rattle.floor.specs.Checks.{within}
use Rattle.laws.proofs.CodeTests.{decides}
use Rattle.floor.proofs.checks.counted.Goals as goal

pub returns-then-count-lt1 : goal.returns-then-count-lt1
unfolding within
returns-then-count-lt1 c = search decides

pub returns : goal.returns
unfolding within
returns c = search decides
