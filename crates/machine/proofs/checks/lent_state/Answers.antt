-- `machine::checks::lent_state` meets its contract: the lent place first, then the test of the state.
use Rattle.floor.proofs.AnswersLaws.{chain, then_next, met_passed}
use Rattle.machine.proofs.VerdictLaws.{place_tells, last_yes, last_no}
use Rattle.steps.proofs.PlacedLaws.{placed_sized}
use Rattle.floor.specs.Answers.{verdict_of}
use Rattle.encoding.specs.Calls.{state_verdict}
use Rattle.machine.proofs.checks.lent_state.Goals as goal

pub returns-in_err-lent_place : goal.returns-in_err-lent_place
unfolding state_verdict
returns-in_err-lent_place c = search (chain, c.in_err-lent_place.ensures) depth 7

pub valid-requires : goal.valid-requires
valid-requires c = placed_sized (place_tells _ _ _ (met_passed c.in_ok-lent_place.ensures))

pub returns-then-not-valid : goal.returns-then-not-valid
unfolding state_verdict verdict_of
returns-then-not-valid c =
    then_next c.in_ok-lent_place.ensures (last_no _ _ c.valid.ensures c.if-not-valid.true)

pub returns : goal.returns
unfolding state_verdict verdict_of
returns c =
    then_next c.in_ok-lent_place.ensures (last_yes _ _ c.valid.ensures c.if-not-valid.false)
