-- `lister::ready` meets its contract: a chain of three checks.
use Rattle.floor.proofs.AnswersLaws.{chain, met_passed}
use Rattle.lister.specs.Entry.{small_verdict}
use Rattle.lister.proofs.EntryLaws.{report_asked}
use Rattle.lister.proofs.ready.Goals as goal

pub returns-in_err-check : goal.returns-in_err-check
unfolding small_verdict
returns-in_err-check c = search (chain, c.in_err-check.ensures) depth 7

pub returns-in_err-check_length : goal.returns-in_err-check_length
unfolding small_verdict
returns-in_err-check_length c =
    rw (← report_asked _ _ _ (met_passed c.in_ok-check.ensures) c.most_steps.ensures)
    (search (chain, c.in_ok-check.ensures, c.in_err-check_length.ensures) depth 7)

pub returns : goal.returns
unfolding small_verdict
returns c =
    rw (← report_asked _ _ _ (met_passed c.in_ok-check.ensures) c.most_steps.ensures)
    (search (chain, c.in_ok-check.ensures, c.in_ok-check_length.ensures) depth 7)
