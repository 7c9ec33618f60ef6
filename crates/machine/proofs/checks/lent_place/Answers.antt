-- `machine::checks::lent_place` meets its contract: the floor first, then the length.
use Rattle.floor.proofs.AnswersLaws.{chain, met_passed}
use Rattle.machine.proofs.VerdictLaws.{checked_few}
use Rattle.encoding.specs.Calls.{place_verdict}
use Rattle.machine.proofs.checks.lent_place.Goals as goal

pub returns-in_err-check : goal.returns-in_err-check
unfolding place_verdict
returns-in_err-check c = search (chain, c.in_err-check.ensures) depth 7

pub state_size-requires : goal.state_size-requires
state_size-requires c = checked_few _ _ (met_passed c.in_ok-check.ensures)

pub returns : goal.returns
unfolding place_verdict
returns c = rw (← c.state_size.ensures.0) (search (chain, c.in_ok-check.ensures) depth 7)
