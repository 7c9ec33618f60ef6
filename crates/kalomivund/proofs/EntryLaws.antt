-- Laws of an exported function: a floor record that is too short is refused and leaves memory alone, with one of enough numbers
-- the entry answers.
use Prim.Native.Nat.{ℕ, ◌<◌, ◌≤◌}
use mathlib.Core.Path.{◌≡◌, refl}
use mathlib.Core.List.{List}
use lib.ListN.{length}
use borrow.Author.Tests.{le-leb, lt-leb}
use Rattle.laws.specs.Verdict.{Verdict, passed, refused, ◌then◌, demand, Outcome, refusal, ◌gives◌, ◌then_answers◌, when_passed}
use Rattle.std.specs.Prelude.{Result, Ok, Err}
use Rattle.floor.specs.declared.Refusal.{Refusal}
use Rattle.floor.specs.Answers.{outcome_by}
use Rattle.floor.specs.Checks.{long_enough}
use Rattle.sheet.specs.Read.{read_verdict}
use Rattle.abi.specs.Word.{Done, word_of, map_outcome}
use Rattle.abi.specs.Record.{record_lent}
use Rattle.kalomivund.specs.Entries.{word_for, stored_for, read_lent}

-- The word and the memory are those of the call.
pub says_lent : {w : ℕ} (xs : List ℕ) (x : Outcome Done) → 54 ≤ length xs → w ≡ word_of x → w ≡ word_for xs x
unfolding word_for ◌then_answers◌ record_lent long_enough demand
says_lent xs x l e = rw (le-leb 54 (length xs) l) e

pub stores_lent : {m new : List ℕ} (xs old : List ℕ) → 54 ≤ length xs → m ≡ new → m ≡ stored_for xs new old
unfolding stored_for when_passed record_lent long_enough demand
stores_lent xs old l e = rw (le-leb 54 (length xs) l) e

-- What an answer tells in a word, by way of what it says.
tells_by : {X A : Type 0} (says : X → A) (tells : A → Done) (r : Result X Refusal)
    → map_outcome tells (outcome_by says r) ≡ outcome_by (λ x. tells (says x)) r
unfolding map_outcome outcome_by
tells_by says tells (Ok x) = refl
tells_by says tells (Err e) = refl

-- The word of an answer of the code, which says what the entry answers; and the same for an entry on the floor that the numbers say.
pub says_told : {X A : Type 0} {w : ℕ} (says : X → A) (tells : A → Done) (r : Result X Refusal) {x : Outcome A}
    → w ≡ word_of (outcome_by (λ a. tells (says a)) r) → outcome_by says r ≡ x → w ≡ word_of (map_outcome tells x)
says_told says tells r h e = rw (← e, tells_by says tells r) h

pub says_packed : {X A : Type 0} {w : ℕ} (says : X → A) (tells : A → Done) (r : Result X Refusal) (xs : List ℕ) {x : Outcome A}
    → 54 ≤ length xs → w ≡ word_of (outcome_by (λ a. tells (says a)) r) → outcome_by says r ≡ x → w ≡ word_for xs (map_outcome tells x)
says_packed says tells r xs l h e = says_lent xs _ l (says_told says tells r h e)

-- The same of an answer of checks that is told as a word.
pub says_checked : {A : Type 0} {w : ℕ} {told x : Outcome A} (tells : A → Done) (xs : List ℕ) → 54 ≤ length xs
    → w ≡ word_of (map_outcome tells told) → told ≡ x → w ≡ word_for xs (map_outcome tells x)
says_checked tells xs l h e = says_lent xs _ l (rw e at h)

-- The answer of checks, with a number where they pass.
pub told_checks : {A : Type 0} {x y : Verdict} {z z' : A} → x ≡ y → z ≡ z' → (x gives z) ≡ (y gives z')
told_checks e d = rw (e, d)

-- What is answered to a record of enough numbers, said over the floor that was read of it: the packer tells the word of what the entry
-- answered, and the entry left the memory.
pub ruleset packed_answers = (says_packed, says_checked, told_checks, stores_lent)

-- The word is the refusal's, 9, 0, and the memory is as it was.
pub says_short : {w : ℕ} (xs : List ℕ) (x : Outcome Done) → length xs < 54 → w ≡ word_of (refusal 9 0) → w ≡ word_for xs x
unfolding word_for ◌then_answers◌ record_lent long_enough demand
says_short xs x l e = rw (lt-leb 54 (length xs) l) e

pub stores_short : (xs new old : List ℕ) → length xs < 54 → old ≡ stored_for xs new old
unfolding stored_for when_passed record_lent long_enough demand
stores_short xs new old l = rw (lt-leb 54 (length xs) l) refl

-- What is answered to a record that is too short.
pub ruleset too_short = (says_short, stores_short)

-- Checks, then output memory that is too short: nothing is stored.
pub short_keeps : (x : Verdict) (new old : List ℕ) → when_passed (x then refused 9 0) new old ≡ old
unfolding when_passed ◌then◌
short_keeps passed new old = refl
short_keeps (refused k p) new old = refl

-- A check that finds nothing adds nothing to those before it.
then_nothing : (x : Verdict) → (x then passed) ≡ x
unfolding ◌then◌
then_nothing passed = refl
then_nothing (refused k p) = refl

-- Reading a sheet into a record that is too short, and into one of enough numbers.
module _ (text : List ℕ) {lent : ℕ} (walls : ℕ) where
  pub read_short : lent < 54 → read_lent text lent walls ≡ (read_verdict text walls then refused 9 0)
  unfolding read_lent long_enough demand
  read_short l = rw (lt-leb 54 lent l) refl

  pub read_long : 54 ≤ lent → read_lent text lent walls ≡ read_verdict text walls
  unfolding read_lent long_enough demand
  read_long l = rw (le-leb 54 lent l) (then_nothing (read_verdict text walls))
