-- `legality::check_record` meets its contract: a refusal is answered as met; otherwise the record is tested.
use mathlib.Core.Path.{ap}
use Rattle.laws.specs.Verdict.{value}
use Rattle.floor.specs.Answers.{outcome_by}
use Rattle.floor.proofs.AnswersLaws.{met_passed, gives_next, gives_end}
use Rattle.legality.specs.Entry.{record_outcome}
use Rattle.legality.specs.Answers.{record_meant}
use Rattle.legality.proofs.check_record.Goals as goal

pub returns-in_err-request : goal.returns-in_err-request
unfolding record_outcome
returns-in_err-request c = gives_end record_meant _ _ _ c.in_err-request.ensures c.from_residual.ensures.1

pub answer-requires : goal.answer-requires
answer-requires c = met_passed c.in_ok-request.ensures

pub returns : goal.returns
unfolding record_outcome outcome_by
returns c = gives_next _ c.in_ok-request.ensures (ap value c.answer.ensures)
