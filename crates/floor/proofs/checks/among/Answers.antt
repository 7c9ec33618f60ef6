-- `floor::checks::among` meets its contract: invariant: none of the numbers passed is c.
use Rattle.floor.proofs.AmongLaws.{looks}
use Rattle.floor.proofs.checks.among.Goals as goal

pub loop-i-init : goal.loop-i-init
loop-i-init c = search looks

pub returns-then-xs-i : goal.returns-then-xs-i
returns-then-xs-i c = search looks

pub loop-i-preserved : goal.loop-i-preserved
loop-i-preserved c = search looks

pub returns : goal.returns
returns c = search looks
