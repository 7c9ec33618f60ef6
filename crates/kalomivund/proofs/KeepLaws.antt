-- Laws of lent memory: an entry of verdict x that stores `when_passed x new old` keeps the memory with a refusal, and what is stored in
-- front leaves the rest.
use Prim.Native.Nat.{ℕ}
use native.Mathlib.Omega.{arith}
use mathlib.Core.Path.{◌≡◌, refl}
use mathlib.Core.List.{List}
use lib.ListN.{drop}
use Rattle.laws.specs.Verdict.{Verdict, passed, refused, Outcome, value, ◌gives◌, ◌then_answers◌, when_passed}
use Rattle.abi.specs.Word.{Done, word_of, map_outcome}
use Rattle.abi.proofs.Theorems.{theorems as wire-theorems}
use Rattle.abi.specs.Record.{record_lent}
use Rattle.kalomivund.specs.Entries.{word_for, stored_for}
use Rattle.kalomivund.specs.Claims.{SaysRefused, KeepsLent}

-- A word of what is done says not refused.
pub done_not_refused : (x : Done) → SaysRefused (word_of (value x)) → ⊥
unfolding word_of
done_not_refused x e = omega (arith, (wire-theorems.done_low x.case x.number).0)

-- An entry whose checks are x: a refusal is theirs, and with it the old memory stays.
pub checked_kept : {A : Type 0} (φ : A → Done) (x : Verdict) (y : A) (new old : List ℕ) → SaysRefused (word_of (map_outcome φ (x gives y)))
    → when_passed x new old ≡ old
unfolding map_outcome ◌gives◌ when_passed
checked_kept φ passed y new old e = absurd (done_not_refused (φ y) e)
checked_kept φ (refused k p) y new old e = refl

-- Checks x before an entry that answers y.
pub after_kept : {A : Type 0} (φ : A → Done) (x : Verdict) (y : Outcome A) (new old : List ℕ)
    → (SaysRefused (word_of (map_outcome φ y)) → new ≡ old) → SaysRefused (word_of (map_outcome φ (x then_answers y)))
    → when_passed x new old ≡ old
unfolding map_outcome ◌then_answers◌ when_passed
after_kept φ passed y new old h e = h e
after_kept φ (refused k p) y new old h e = refl

-- What is stored where checks pass leaves what it leaves where they refuse.
pub checked_beyond : (x : Verdict) (n : ℕ) (new old : List ℕ) → (x ≡ passed → drop n new ≡ drop n old)
    → drop n (when_passed x new old) ≡ drop n old
unfolding when_passed
checked_beyond passed n new old h = h refl
checked_beyond (refused k p) n new old h = refl

pub checked_lent : {A : Type 0} {needed : ℕ} (φ : A → Done) (x : Verdict) (y : A) (new old : List ℕ)
    → (x ≡ passed → drop needed new ≡ drop needed old) → KeepsLent needed (word_of (map_outcome φ (x gives y))) (when_passed x new old) old
checked_lent {needed = n} φ x y new old h = record { kept = checked_kept φ x y new old; beyond = checked_beyond x n new old h }

-- A call with a floor record that may be too short.
pub record_lent_lem : {needed : ℕ} (xs : List ℕ) (x : Outcome Done) (new old : List ℕ)
    → KeepsLent needed (word_of x) new old → KeepsLent needed (word_for xs x) (stored_for xs new old) old
unfolding word_for stored_for ◌then_answers◌ when_passed
record_lent_lem {needed} xs x new old h = go (record_lent xs)
  where
    go : (y : Verdict) → KeepsLent needed (word_of (y then_answers x)) (when_passed y new old) old
    go passed = h
    go (refused k p) = record { kept = λ e. refl; beyond = refl }
