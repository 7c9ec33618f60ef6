-- `machine::step_on` meets its contract: no kind of step, a refusal, or an open step taken.
use Rattle.floor.specs.Answers.{outcome_by}
use Rattle.floor.proofs.AnswersLaws.{met_passed}
use Rattle.steps.specs.Answers.{asked_meant}
use Rattle.steps.proofs.OpenLaws.{ready_open}
use Rattle.steps.proofs.PlacedLaws.{placed_sized, placed_grid}
use Rattle.machine.specs.Answers.{step_told}
use Rattle.machine.proofs.VerdictLaws.{state_tells, refuses_on, met_refused}
use Rattle.machine.proofs.EntryLaws.{step_unnamed, step_refused, step_taken}
use Rattle.machine.proofs.step_on.Goals as goal

pub returns-in_default : goal.returns-in_default
unfolding asked_meant outcome_by
returns-in_default c =
    let both = step_unnamed _ _ _ c.requires _ c.in_default.ensures in
    record { answers = both.0; stores = both.1 }

pub invariant_of-now : goal.invariant_of-now
invariant_of-now c = let sized = placed_sized (state_tells _ _ _ c.requires) in record { few = sized.0; whole = sized.1 }

pub returns-in_err-ready : goal.returns-in_err-ready
unfolding asked_meant
returns-in_err-ready c =
    let both = step_refused _ _ _ c.requires _ _ c.in-Some.ensures _ _ (met_refused _ c.in_err-ready.ensures) in record {
      answers = refuses_on step_told _ _ both.0 c.from_residual.ensures.1;
      stores = both.1;
    }

pub rows_for-free-requires : goal.rows_for-free-requires
rows_for-free-requires c = placed_grid (state_tells _ _ _ c.requires)

pub take-requires : goal.take-requires
take-requires c = record {
  x_value = ready_open _ _ _ (met_passed c.in_ok-ready.ensures);
  placed = state_tells _ _ _ c.requires;
  rows_for = c.rows_for-free.ensures;
}

pub returns : goal.returns
unfolding asked_meant outcome_by
returns c =
    let made = step_taken _ _ _ c.requires _ _ c.in-Some.ensures _ _ (met_passed c.in_ok-ready.ensures) c.take.ensures in
    record { answers = made.0; stores = made.1 }
