-- `planner::request` meets its contract: a chain of two checks.
use Rattle.planner.specs.Plan.{plan_verdict}
use Rattle.floor.proofs.AnswersLaws.{chain}
use Rattle.planner.proofs.request.Goals as goal

pub returns-in_err-check : goal.returns-in_err-check
unfolding plan_verdict
returns-in_err-check c = search (chain, c.in_err-check.ensures) depth 7

pub returns : goal.returns
unfolding plan_verdict
returns c = search (chain, c.in_ok-check.ensures) depth 7
