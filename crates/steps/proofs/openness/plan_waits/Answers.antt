-- `steps::openness::plan_waits` meets its contract: a chain of two checks.
use Rattle.floor.proofs.AnswersLaws.{chain}
use Rattle.encoding.specs.Calls.{machine_of}
use Rattle.encoding.specs.InnerSteps.{waits_in}
use Rattle.steps.specs.Inner.{bare}
use Rattle.steps.proofs.openness.plan_waits.Goals as goal

pub returns-in_err-due : goal.returns-in_err-due
unfolding waits_in bare machine_of
returns-in_err-due c = search (chain, rw c.in_err-due.was at c.due_waits-due.ensures) depth 7

pub returns : goal.returns
unfolding waits_in bare machine_of
returns c = search (chain, rw c.in_ok-due.was at c.due_waits-due.ensures) depth 7
