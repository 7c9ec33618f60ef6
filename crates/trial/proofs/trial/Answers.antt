-- `trial::trial` meets its contract: a refusal leaves all as it was; otherwise the trial is played.
use Rattle.std.proofs.Common.{sym, ap, ◌∙◌, ℕ}
use Rattle.floor.specs.Answers.{outcome_by}
use Rattle.floor.proofs.AnswersLaws.{met_passed}
use Rattle.laws.specs.Verdict.{value}
use Rattle.laws.proofs.VerdictLaws.{gives_passed, gives_refused, when_passed_lem, when_refused}
use Rattle.machine.proofs.VerdictLaws.{refuses_on, met_refused}
use Rattle.trial.specs.Entry.{trial_outcome, state_tried, report_tried, trial_of}
use Rattle.trial.specs.Inner.{trial_by}
use Rattle.trial.proofs.OrderLaws.{order_known, order_refused}
use Rattle.trial.proofs.EntryLaws.{room_refuses, order_decides}
use Rattle.trial.proofs.trial.Goals as goal

pub returns-in_err-roomy : goal.returns-in_err-roomy
unfolding trial_outcome state_tried report_tried
returns-in_err-roomy c =
    let no = room_refuses _ _ _ _ _ (met_refused _ c.in_err-roomy.ensures) in record {
      answers = refuses_on (λ (t : ℕ). t) _ _ (sym (gives_refused _ no)) c.from_residual.ensures.1;
      stores = sym (when_refused _ no);
      reports = sym (when_refused _ no);
    }

pub returns-in_err-order : goal.returns-in_err-order
unfolding trial_outcome state_tried report_tried
returns-in_err-order c =
    let no = order_decides _ _ _ _ _ (met_passed c.in_ok-roomy.ensures) ∙ order_refused _ _ c.in_err-order.ensures in record {
      answers = refuses_on (λ (t : ℕ). t) _ _ (sym (gives_refused _ no)) c.from_residual-in_err-order.ensures.1;
      stores = sym (when_refused _ no);
      reports = sym (when_refused _ no);
    }

pub play-requires : goal.play-requires
play-requires c = met_passed c.in_ok-roomy.ensures

pub returns : goal.returns
unfolding outcome_by trial_outcome state_tried report_tried trial_of trial_by
returns c =
    let known = order_known _ _ c.in_ok-order.ensures in
    let ok = order_decides _ _ _ _ _ (met_passed c.in_ok-roomy.ensures) ∙ known.0 in
    let done = rw known.1 at c.play.ensures in record {
      answers = ap value done.answers ∙ sym (gives_passed ok);
      stores = done.stores ∙ sym (when_passed_lem _ ok);
      reports = done.reports ∙ sym (when_passed_lem _ ok);
    }
