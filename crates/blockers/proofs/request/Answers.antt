-- `blockers::request` meets its contract: a chain of two checks.
use Rattle.floor.proofs.AnswersLaws.{chain}
use Rattle.blockers.specs.Entry.{carrier_verdict}
use Rattle.blockers.proofs.request.Goals as goal

pub returns-in_err-request : goal.returns-in_err-request
unfolding carrier_verdict
returns-in_err-request c = search (chain, c.in_err-request.ensures) depth 7

pub returns : goal.returns
unfolding carrier_verdict
returns c = search (chain, c.in_ok-request.ensures) depth 7
