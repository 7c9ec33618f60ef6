-- `floor::checks::rises` meets its contract: the first wall has none before it.
use Rattle.floor.proofs.RisesLaws.{rises_past_first}
use Rattle.floor.specs.Checks.{rises}
use Rattle.floor.proofs.checks.rises.Goals as goal

pub returns-then-j-eq0 : goal.returns-then-j-eq0
unfolding rises
returns-then-j-eq0 c = rw c.if-j-eq0.true

pub returns : goal.returns
returns c = rises_past_first _ _ c.if-j-eq0.false
