-- Laws of the needed lengths into lent memory: known, they go there if there is room; refused, nothing does.
use Prim.Native.Nat.{ℕ}
use mathlib.Core.Path.{◌≡◌, sym}
use mathlib.Core.List.{List}
use Rattle.laws.specs.Verdict.{passed, refused, refusal, ◌gives◌, when_passed}
use Rattle.laws.specs.Memory.{put}
use Rattle.laws.proofs.VerdictLaws.{then_passed, then_refused, gives_refused, given_value, given_refusal, when_refused}
use Rattle.floor.specs.declared.Floor.{Floor}
use Rattle.floor.specs.declared.Refusal.{Refusal}
use Rattle.floor.specs.Checks.{limits_of, long_enough}
use Rattle.lengths.specs.declared.Lengths.{Lengths}
use Rattle.std.specs.Prelude.{Result, Ok, Err}
use Rattle.floor.specs.Answers.{number_of, outcome_by}
use Rattle.lengths.specs.Figures.{figures_of, figures_for, lengths_of}
use Rattle.abi.specs.Word.{word_of, of_number, map_outcome}
use Rattle.kalomivund.specs.Answers.{figure_list}
use Rattle.kalomivund.specs.Entries.{needed_verdict}
use Rattle.kalomivund.proofs.EntryLaws.{says_lent, stores_lent}

module _ {x : Result Lengths Refusal} (f : Floor) (h : figures_of x ≡ figures_for f) (lent : ℕ) where
  known_lengths : {y : Lengths} → x ≡ Ok y → (limits_of f ≡ passed) × (y ≡ lengths_of f)
  unfolding outcome_by figures_for
  known_lengths {y} e = given_value (limits_of f) (lengths_of f) y (rw e at h)

  known_verdict : {y : Lengths} → x ≡ Ok y → needed_verdict f lent ≡ long_enough 9 lent
  unfolding needed_verdict
  known_verdict e = then_passed (known_lengths e).0

  refused_verdict : {y : Refusal} → x ≡ Err y → needed_verdict f lent ≡ refused (number_of y.reason) y.place
  unfolding needed_verdict outcome_by figures_for
  refused_verdict {y} e = then_refused _ (given_refusal (limits_of f) (lengths_of f) (number_of y.reason) y.place (rw e at h))

  -- Known: the word and the memory are those of the room for them.
  pub known_says : {w : ℕ} {y : Lengths} → x ≡ Ok y → w ≡ word_of (of_number (long_enough 9 lent gives 0))
      → w ≡ word_of (of_number (needed_verdict f lent gives 0))
  known_says e s = rw (known_verdict e) s

  pub known_stores : {m : List ℕ} {y : Lengths} (old : List ℕ) → x ≡ Ok y
      → m ≡ when_passed (long_enough 9 lent) (put old 0 (figure_list y)) old
      → m ≡ when_passed (needed_verdict f lent) (put old 0 (figure_list (lengths_of f))) old
  known_stores old e s = rw (known_verdict e, ← (known_lengths e).1) s

  -- Refused: the refusal as met, and the memory as it was.
  pub refused_says : {w : ℕ} {y : Refusal} → x ≡ Err y → w ≡ word_of (refusal (number_of y.reason) y.place)
      → w ≡ word_of (of_number (needed_verdict f lent gives 0))
  unfolding of_number map_outcome
  refused_says e s = rw (gives_refused {A = ℕ} 0 (refused_verdict e)) s

  pub refused_stores : {y : Refusal} (new old : List ℕ) → x ≡ Err y → old ≡ when_passed (needed_verdict f lent) new old
  refused_stores new old e = sym (when_refused new (refused_verdict e))

-- What is answered to a record of enough numbers.
pub ruleset lengths_lent = (says_lent, stores_lent, known_says, known_stores, refused_says, refused_stores)
