-- Whether some number below n passes a test: what it says, and the turns of a loop that looks for one.
use Prim.Native.Nat.{ℕ, zero, suc, ◌+◌, ◌≤◌, ◌<◌}
use native.Mathlib.Omega.{arith}
use native.Mathlib.Nat.{eq-or-lt_of_le}
use native.Mathlib.Numerals.{add-one}
use mathlib.Core.Bool.{Bool, true, false}
use mathlib.Core.Logic.{◌⊎◌, inl, inr, ⊎_elim}
use mathlib.Core.Path.{◌≡◌, refl, sym, ap, ◌∙◌}
use Rattle.laws.proofs.Tests.{or_cases, or_inl, or_inr, true_false_absurd}
use Rattle.passes.specs.Docks.{any_of}

-- A number below n that passes the test.
pub record Passing (φ : ℕ → Bool) (n : ℕ) : Type 0 where
  pub which : ℕ
  pub below : which < n
  pub passes : φ which ≡ true

-- None of the first i of n passes the test.
pub record Untold (φ : ℕ → Bool) (n i : ℕ) : Type 0 where
  pub within : i ≤ n
  pub none : any_of φ i ≡ false

module _ (φ : ℕ → Bool) where
  pub any_says : (n : ℕ) → any_of φ n ≡ true → Passing φ n
  unfolding any_of
  any_says zero e = true_false_absurd e refl
  any_says (suc n) e = split (or_cases (any_of φ n) (φ n) e) (λ (h : any_of φ n ≡ true). any_says n h)
    where
      split : (any_of φ n ≡ true) ⊎ (φ n ≡ true) → (any_of φ n ≡ true → Passing φ n) → Passing φ (suc n)
      split (inl h) below =
          let x : Passing φ n = below h in
          record { which = x.which; below = omega (arith, x.below); passes = x.passes }
      split (inr h) below = record { which = n; below = omega arith; passes = h }

  pub any_holds : (n i : ℕ) → i < n → φ i ≡ true → any_of φ n ≡ true
  unfolding any_of
  any_holds zero i l e = absurd (omega arith)
  any_holds (suc n) i l e =
      ⊎_elim (λ (h : i ≡ n). or_inr (any_of φ n) (φ n) (rw h at e)) (λ (h : i < n). or_inl (any_of φ n) (φ n) (any_holds n i h e))
      (eq-or-lt_of_le (omega arith))

  -- Before the first; one more that fails; the first that passes; the end.
  pub any_start : (n : ℕ) → Untold φ n 0
  unfolding any_of
  any_start n = record { within = omega arith; none = refl }

  pub any_stop : {n i : ℕ} → i < n → φ i ≡ true → true ≡ any_of φ n
  any_stop {n} {i} l e = sym (any_holds n i l e)

module _ {φ : ℕ → Bool} {n i : ℕ} where
  pub any_more : Untold φ n i → i < n → φ i ≡ false → Untold φ n (i + 1)
  unfolding any_of
  any_more u l e = record { within = omega arith; none = rw (add-one, u.none, e) refl }

  pub any_end : Untold φ n i → n ≤ i → false ≡ any_of φ n
  any_end u l = let same : i ≡ n = omega (arith, u.within) in sym u.none ∙ ap (any_of φ) same
