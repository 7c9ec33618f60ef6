-- `floor::bounds::limit` meets its contract: each test has its own answer.
use Rattle.floor.specs.Answers.{verdict_of}
use Rattle.floor.specs.Checks.{within}
use Rattle.laws.proofs.VerdictLaws.{demands}
use Rattle.floor.proofs.bounds.limit.Goals as goal

pub returns-then-value-low : goal.returns-then-value-low
unfolding verdict_of within
returns-then-value-low c = search demands

pub returns-then-high-value : goal.returns-then-high-value
unfolding verdict_of within
returns-then-high-value c = search demands

pub returns : goal.returns
unfolding verdict_of within
returns c = search demands
