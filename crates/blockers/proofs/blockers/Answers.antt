-- `blockers::blockers` meets its contract: a refusal leaves all as it was; otherwise the set is found.
use mathlib.Core.Path.{refl}
use Rattle.std.proofs.lemmas.Result.{err_from_is_err_and}
use Rattle.floor.specs.Answers.{outcome_by}
use Rattle.floor.proofs.AnswersLaws.{met_passed, refuses}
use Rattle.blockers.proofs.EntryLaws.{carrier_refused}
use Rattle.blockers.proofs.blockers.Goals as goal

pub returns-in_err-request : goal.returns-in_err-request
unfolding outcome_by
returns-in_err-request c =
    let both = carrier_refused _ _ _ _ (refuses c.in_err-request.ensures refl) in
    let handed = err_from_is_err_and c.from_residual.result c.from_residual.ensures.1 in
    record { answers = rw (handed.1, handed.2) both.0; stores = both.1 }

pub find-requires : goal.find-requires
find-requires c = met_passed c.in_ok-request.ensures
