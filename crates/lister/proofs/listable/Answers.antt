-- `lister::listable` meets its contract: a chain of two checks.
use Rattle.floor.proofs.AnswersLaws.{chain}
use Rattle.lister.specs.Entry.{list_verdict}
use Rattle.lister.proofs.listable.Goals as goal

pub returns-in_err-check : goal.returns-in_err-check
unfolding list_verdict
returns-in_err-check c = search (chain, c.in_err-check.ensures) depth 7

pub returns : goal.returns
unfolding list_verdict
returns c = search (chain, c.in_ok-check.ensures) depth 7
