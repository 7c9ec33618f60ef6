-- `lister::runs_from` meets its contract: a refusal leaves all as it was; otherwise the runs are listed.
use Prim.Native.Nat.{ℕ}
use mathlib.Core.Path.{refl, ap}
use Rattle.laws.specs.Verdict.{value}
use Rattle.floor.specs.Answers.{outcome_by}
use Rattle.floor.proofs.AnswersLaws.{met_passed, gives_next, gives_end, written_next, written_end}
use Rattle.lister.specs.Entry.{list_outcome, lines_listed}
use Rattle.lister.proofs.EntryLaws.{list_tells}
use Rattle.lister.proofs.runs_from.Goals as goal

pub returns-in_err-listable : goal.returns-in_err-listable
unfolding list_outcome lines_listed
returns-in_err-listable c = record {
  answers = gives_end (λ (n : ℕ). n) _ _ _ c.in_err-listable.ensures c.from_residual.ensures.1;
  lists = written_end _ _ c.in_err-listable.ensures refl;
}

pub list-requires : goal.list-requires
list-requires c = list_tells _ _ (met_passed c.in_ok-listable.ensures)

pub returns : goal.returns
unfolding outcome_by list_outcome lines_listed
returns c = record {
  answers = gives_next _ c.in_ok-listable.ensures (ap value c.list.ensures.counts);
  lists = written_next _ c.in_ok-listable.ensures c.list.ensures.lists;
}
