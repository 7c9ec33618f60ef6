-- `legality::arrival` meets its contract: 9, or the arrival of the 64 cells.
use mathlib.Core.Path.{ap}
use Rattle.laws.specs.Verdict.{value}
use Rattle.floor.specs.Answers.{outcome_by}
use Rattle.floor.proofs.AnswersLaws.{met_passed, gives_next, gives_end}
use Rattle.floor.proofs.LimitsLaws.{length_passed}
use Rattle.legality.specs.Entry.{arrival_outcome}
use Rattle.legality.proofs.arrival.Goals as goal

pub returns-in_err-check_length : goal.returns-in_err-check_length
unfolding arrival_outcome
returns-in_err-check_length c = gives_end (λ a. a) _ _ _ c.in_err-check_length.ensures c.from_residual.ensures.1

pub load-requires : goal.load-requires
load-requires c = length_passed _ _ (met_passed c.in_ok-check_length.ensures)

pub returns : goal.returns
unfolding arrival_outcome outcome_by
returns c = gives_next _ c.in_ok-check_length.ensures (ap value (rw c.load.ensures at c.arrival.ensures))
