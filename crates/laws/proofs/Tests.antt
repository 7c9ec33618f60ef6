-- Laws of Bool tests: a test is true or false, what a conjunction or a disjunction of tests says, and cases on two numbers.
use Prim.Native.Nat.{ℕ, ◌≤◌, ◌<◌}
use mathlib.Core.Bool.{Bool, true, false, ◌&&◌, ◌||◌, not, true≢false}
use mathlib.Core.Logic.{◌⊎◌, inl, inr, ⊎_elim}
use mathlib.Core.Path.{◌≡◌, refl, sym, ◌∙◌}
use lib.Dec.{ltb, eqb}
use borrow.Author.Tests.{ltb-true, ltb-false, eqb-true, eqb-false, eq-eqb}

pub true_or_false : (x : Bool) → (x ≡ true) ⊎ (x ≡ false)
true_or_false true = inl refl
true_or_false false = inr refl

pub true_false_absurd : {A : Type 0} {x : Bool} → x ≡ true → x ≡ false → A
true_false_absurd e h = absurd (true≢false (sym e ∙ h))

pub not_true_is_false : (x : Bool) → (x ≡ true → ⊥) → x ≡ false
not_true_is_false true h = absurd (h refl)
not_true_is_false false h = refl

pub false_fails : {x : Bool} → x ≡ false → x ≡ true → ⊥
false_fails h t = true_false_absurd t h

pub and_both : {x y : Bool} → x ≡ true → y ≡ true → (x && y) ≡ true
and_both e h = rw (e, h)

pub and_fst : (x y : Bool) → (x && y) ≡ true → x ≡ true
and_fst true y e = refl
and_fst false y e = e

pub and_snd : (x y : Bool) → (x && y) ≡ true → y ≡ true
and_snd true y e = e
and_snd false y e = true_false_absurd e refl

pub or_cases : (x y : Bool) → (x || y) ≡ true → (x ≡ true) ⊎ (y ≡ true)
or_cases true y e = inl refl
or_cases false y e = inr e

pub or_inl : (x y : Bool) → x ≡ true → (x || y) ≡ true
or_inl x y e = rw e

pub or_inr : (x y : Bool) → y ≡ true → (x || y) ≡ true
or_inr true y e = refl
or_inr false y e = e

pub not_is_true : (x : Bool) → (x ≡ true → ⊥) → not x ≡ true
not_is_true true h = absurd (h refl)
not_is_true false h = refl

pub not_refutes : (x : Bool) → not x ≡ true → x ≡ true → ⊥
not_refutes true e h = true_false_absurd e refl
not_refutes false e h = true_false_absurd h refl

pub lt_or_le : (k n : ℕ) → (k < n) ⊎ (n ≤ k)
lt_or_le k n =
    ⊎_elim (λ (e : ltb k n ≡ true). inl (ltb-true k n e)) (λ (e : ltb k n ≡ false). inr (ltb-false k n e)) (true_or_false (ltb k n))

pub eq_or_ne : (k n : ℕ) → (k ≡ n) ⊎ (k ≡ n → ⊥)
eq_or_ne k n =
    ⊎_elim (λ (e : eqb k n ≡ true). inl (eqb-true k n e)) (λ (e : eqb k n ≡ false). inr (eqb-false k n e)) (true_or_false (eqb k n))

pub eqbs_say : (a b a' b' : ℕ) → (eqb a b && eqb a' b') ≡ true → (a ≡ b) × (a' ≡ b')
eqbs_say a b a' b' e = (eqb-true a b (and_fst (eqb a b) (eqb a' b') e), eqb-true a' b' (and_snd (eqb a b) (eqb a' b') e))

pub eqbs_hold : (a b a' b' : ℕ) → (a ≡ b) × (a' ≡ b') → (eqb a b && eqb a' b') ≡ true
eqbs_hold a b a' b' h = and_both (eq-eqb a b h.0) (eq-eqb a' b' h.1)

-- Two tests that say the same are the same.
pub same_test : (x y : Bool) → (x ≡ true → y ≡ true) → (y ≡ true → x ≡ true) → x ≡ y
same_test true y f g = sym (f refl)
same_test false true f g = g refl
same_test false false f g = refl

-- The second test of a conjunction counts only where the first holds.
pub and_same : (x y z : Bool) → (x ≡ true → y ≡ z) → (x && y) ≡ (x && z)
and_same true y z e = e refl
and_same false y z e = refl

-- So below a bound.
pub below_same : (k n : ℕ) (x y : Bool) → (k < n → x ≡ y) → (ltb k n && x) ≡ (ltb k n && y)
below_same k n x y e = and_same (ltb k n) x y (λ h. e (ltb-true k n h))

pub inside_same : (k n : ℕ) (x y z : Bool) → (k < n → y ≡ z) → (ltb k n && x && y) ≡ (ltb k n && x && z)
inside_same k n x y z e = and_same (ltb k n && x) y z (λ h. e (ltb-true k n (and_fst (ltb k n) x h)))

pub and_fails : (x y : Bool) → (x && y) ≡ false → (x ≡ false) ⊎ (y ≡ false)
and_fails true y e = inr e
and_fails false y e = inl refl
