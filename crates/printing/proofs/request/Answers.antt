-- `printing::request` meets its contract: a chain of two checks.
use Rattle.printing.specs.Print.{print_verdict}
use Rattle.floor.proofs.AnswersLaws.{chain}
use Rattle.printing.proofs.request.Goals as goal

pub returns-in_err-request : goal.returns-in_err-request
unfolding print_verdict
returns-in_err-request c = search (chain, c.in_err-request.ensures) depth 7

pub returns : goal.returns
unfolding print_verdict
returns c = rw (← c.text_length.ensures) (search (chain, c.in_ok-request.ensures) depth 7)
