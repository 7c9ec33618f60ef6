-- `trial::roomy` meets its contract: the lent place first, then the length of the report.
use Rattle.floor.proofs.AnswersLaws.{chain, met_passed}
use Rattle.trial.specs.Inner.{room_verdict}
use Rattle.trial.proofs.EntryLaws.{report_length_lem}
use Rattle.trial.proofs.roomy.Goals as goal

pub returns-in_err-lent_place : goal.returns-in_err-lent_place
unfolding room_verdict
returns-in_err-lent_place c = search (chain, c.in_err-lent_place.ensures) depth 7

pub returns : goal.returns
unfolding room_verdict
returns c =
    rw (← report_length_lem _ _ _ _ (met_passed c.in_ok-lent_place.ensures) c.most_steps.ensures)
    (search (chain, c.in_ok-lent_place.ensures) depth 7)
