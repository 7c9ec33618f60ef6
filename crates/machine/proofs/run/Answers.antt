-- `machine::run` meets its contract: a refusal leaves all as it was; otherwise the run on the checked state.
use Rattle.floor.specs.Answers.{outcome_by}
use Rattle.floor.proofs.AnswersLaws.{met_passed}
use Rattle.machine.proofs.VerdictLaws.{refuses_on, met_refused, names_are}
use Rattle.machine.proofs.EntryLaws.{entry_made, entry_refused, run_refused}
use Rattle.machine.proofs.RunLaws.{refused_none}
use mathlib.Core.Path.{sym, ◌∙◌}
use Rattle.machine.specs.Answers.{run_told, taken_number}
use Rattle.machine.proofs.run.Goals as goal

pub returns-in_err-lent_state : goal.returns-in_err-lent_state
returns-in_err-lent_state c =
    let kept = entry_refused _ _ _ _ _ _ (met_refused _ c.in_err-lent_state.ensures) in record {
      answers = refuses_on run_told _ _ kept.0 c.from_residual.ensures.1;
      stores = kept.1;
      within = refused_none _ _ _ c.from_residual.ensures.1;
    }

pub returns-in_err-all_named : goal.returns-in_err-all_named
returns-in_err-all_named c =
    let ok = met_passed c.in_ok-lent_state.ensures in
    let no = met_refused _ c.in_err-all_named.ensures in
    let kept = run_refused c.args.f c.args.walls.now c.args.state.now ok c.args.numbers.now c.args.budget (sym no ∙ names_are _ _ _) in
    let both = entry_made _ _ _ _ _ ok kept.0 kept.1 in record {
      answers = refuses_on run_told _ _ both.0 c.from_residual-in_err-all_named.ensures.1;
      stores = both.1;
      within = refused_none _ _ _ c.from_residual-in_err-all_named.ensures.1;
    }

pub run_on-requires : goal.run_on-requires
run_on-requires c = record {
  state_value = met_passed c.in_ok-lent_state.ensures;
  named_value = met_passed c.in_ok-all_named.ensures;
}

pub returns : goal.returns
unfolding outcome_by taken_number
returns c =
    let told = c.run_on.ensures in
    let made = entry_made _ _ _ _ _ (met_passed c.in_ok-lent_state.ensures) told.answers told.stores in record {
      answers = made.0;
      stores = made.1;
      within = told.within;
    }
