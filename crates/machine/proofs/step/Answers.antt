-- `machine::step` meets its contract: a refusal leaves all as it was; otherwise the step on the checked state.
use Rattle.floor.proofs.AnswersLaws.{met_passed}
use Rattle.machine.proofs.VerdictLaws.{refuses_on, met_refused}
use Rattle.machine.proofs.EntryLaws.{entry_made, entry_refused}
use Rattle.machine.specs.Answers.{step_told}
use Rattle.machine.proofs.step.Goals as goal

pub returns-in_err-lent_state : goal.returns-in_err-lent_state
returns-in_err-lent_state c =
    let both = entry_refused _ _ _ _ _ _ (met_refused _ c.in_err-lent_state.ensures) in record {
      answers = refuses_on step_told _ _ both.0 c.from_residual.ensures.1;
      stores = both.1;
    }

pub step_on-requires : goal.step_on-requires
step_on-requires c = met_passed c.in_ok-lent_state.ensures

pub returns : goal.returns
returns c =
    let both = entry_made _ _ _ _ _ (met_passed c.in_ok-lent_state.ensures) c.step_on.ensures.answers c.step_on.ensures.stores in
    record { answers = both.0; stores = both.1 }
