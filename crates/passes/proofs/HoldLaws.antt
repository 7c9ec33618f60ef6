-- The least number from which all below another pass a test.
use Prim.Native.Nat.{ℕ, zero, suc, ◌-◌, ◌≤◌, ◌<◌}
use native.Mathlib.Omega.{arith}
use native.Mathlib.Nat.{eq-or-lt_of_le}
use mathlib.Core.Bool.{Bool, true, false}
use mathlib.Core.Logic.{⊎_elim}
use mathlib.Core.Path.{◌≡◌, refl, sym}
use Rattle.laws.proofs.Tests.{lt_or_le, true_false_absurd}
use Rattle.passes.specs.Docks.{held_from}

module _ (φ : ℕ → Bool) where
  pub held_says : (a n : ℕ) → held_from φ n ≤ a → (t : ℕ) → a ≤ t → t < n → φ t ≡ true
  unfolding held_from
  held_says a zero h t l u = absurd (omega arith)
  held_says a (suc n) h t l u = cases (φ n) refl h (held_says a n)
    where
      cases : (x : Bool) → φ n ≡ x → elim x [ true ↦ held_from φ n | false ↦ suc n ] ≤ a →
          (held_from φ n ≤ a → (t : ℕ) → a ≤ t → t < n → φ t ≡ true) → φ t ≡ true
      cases true e q ih = ⊎_elim (λ (s : t ≡ n). rw s e) (λ (s : t < n). ih q t l s) (eq-or-lt_of_le (omega arith))
      cases false e q ih = absurd (omega arith)

  pub held_least : (a n : ℕ) → ((t : ℕ) → a ≤ t → t < n → φ t ≡ true) → held_from φ n ≤ a
  unfolding held_from
  held_least a zero h = omega arith
  held_least a (suc n) h = cases (φ n) refl (held_least a n (λ t l u. h t l (omega arith)))
    where
      cases : (x : Bool) → φ n ≡ x → held_from φ n ≤ a → elim x [ true ↦ held_from φ n | false ↦ suc n ] ≤ a
      cases true e ih = ih
      cases false e ih = ⊎_elim (λ (s : n < a). s) (λ (s : a ≤ n). absurd (true_false_absurd (h n s (omega arith)) e)) (lt_or_le n a)

  pub held_upto : (n : ℕ) → held_from φ n ≤ n
  held_upto n = held_least n n (λ t l u. absurd (omega arith))

  -- A number from which all pass, and before which one fails, is that one.
  pub held_is : (a n : ℕ) → a ≤ n → ((t : ℕ) → a ≤ t → t < n → φ t ≡ true) → (0 < a → φ (a - 1) ≡ false) → a ≡ held_from φ n
  held_is a n upto holds before =
      ⊎_elim (λ (s : held_from φ n ≡ a). sym s)
      (λ (s : held_from φ n < a).
      true_false_absurd (held_says (a - 1) n (omega arith) (a - 1) (omega arith) (omega arith)) (before (omega arith)))
      (eq-or-lt_of_le (held_least a n holds))
