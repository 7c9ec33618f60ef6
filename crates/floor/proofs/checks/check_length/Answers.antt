-- `floor::checks::check_length` meets its contract: each test has its own answer.
use Rattle.floor.specs.Answers.{verdict_of}
use Rattle.floor.specs.Checks.{long_enough}
use Rattle.laws.proofs.VerdictLaws.{demands}
use Rattle.floor.proofs.checks.check_length.Goals as goal

pub returns-then-lent-needed : goal.returns-then-lent-needed
unfolding verdict_of long_enough
returns-then-lent-needed c = search demands

pub returns : goal.returns
unfolding verdict_of long_enough
returns c = search demands
