-- `lengths::needed_lengths` meets its contract: each figure is the one that its crate states.
use Rattle.floor.specs.Answers.{outcome_by}
use Rattle.floor.proofs.AnswersLaws.{met_passed, gives_next, gives_end}
use Rattle.floor.proofs.LimitsLaws.{limits_passed}
use Rattle.lengths.specs.Figures.{figures_for, lengths_of}
use Rattle.lengths.proofs.needed_lengths.Goals as goal

pub returns-in_err-limits : goal.returns-in_err-limits
unfolding figures_for
returns-in_err-limits c = gives_end (λ l. l) _ _ _ c.in_err-limits.ensures c.from_residual.ensures.1

pub state_size-requires : goal.state_size-requires
state_size-requires c = (limits_passed _ (met_passed c.in_ok-limits.ensures)).carriers.1

pub report_length-requires : goal.report_length-requires
report_length-requires c = (limits_passed _ (met_passed c.in_ok-limits.ensures)).carriers

pub returns : goal.returns
unfolding figures_for lengths_of outcome_by
returns c =
    gives_next _ c.in_ok-limits.ensures
    (rw (c.sheet_length.ensures, c.text_length.ensures, c.state_size.ensures.0, c.report_length.ensures))
