-- `legality::request` meets its contract: a chain of three checks.
use Rattle.legality.specs.Entry.{record_verdict}
use Rattle.floor.proofs.AnswersLaws.{chain}
use Rattle.legality.proofs.request.Goals as goal

pub returns-in_err-check : goal.returns-in_err-check
unfolding record_verdict
returns-in_err-check c = search (chain, c.in_err-check.ensures) depth 7

pub returns-in_err-check_length : goal.returns-in_err-check_length
unfolding record_verdict
returns-in_err-check_length c = search (chain, c.in_ok-check.ensures, c.in_err-check_length.ensures) depth 7

pub returns : goal.returns
unfolding record_verdict
returns c = search (chain, c.in_ok-check.ensures, c.in_ok-check_length.ensures) depth 7
