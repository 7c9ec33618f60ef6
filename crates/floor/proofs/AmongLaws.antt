-- Laws of `among`, for a loop that looks for a number in the first places of a list.
use Prim.Native.Nat.{ℕ, suc, zero, ◌+◌, ◌-◌, ◌≤◌, ◌<◌}
use native.Mathlib.Omega.{arith}
use native.Mathlib.Numerals.{add-one}
use native.Mathlib.Nat.{zero-add, suc-add}
use borrow.Author.Rules.{rules}
use borrow.Author.Tests.{eq-eqb, ne_eqb, eqb-true}
use mathlib.Core.Path.{◌≡◌, refl, sym}
use mathlib.Core.Bool.{true, false, or-true, or-false, true≢false}
use mathlib.Core.Logic.{⊎_elim}
use mathlib.Core.List.{List}
use lib.ListN.{get_or, length, take}
use lib.Seq.{take-suc}
use Rattle.std.specs.List.{list_any}
use Rattle.std.proofs.lemmas.List.Folds.{list_any-append}
use lib.Dec.{eqb}
use Rattle.laws.proofs.Tests.{or_cases}
use Rattle.floor.specs.Checks.{among}
use Rattle.floor.specs.Accepted.{Absent}

module _ (xs : List ℕ) (c : ℕ) where
  -- Nothing is among no numbers.
  pub among_none : among xs 0 c ≡ false
  unfolding among
  among_none = refl

  -- One more number that is another.
  pub among_more : (i : ℕ) → among xs i c ≡ false → (get_or xs i 0 ≡ c → ⊥) → among xs (i + 1) c ≡ false
  unfolding among
  among_more i h n = rw (add-one, h, ne_eqb (get_or xs i 0) c n)

  -- What `contains` says of the first numbers.
  pub among_any : (n : ℕ) → n ≤ length xs → list_any (λ (y : ℕ). eqb y c) (take n xs) ≡ among xs n c
  unfolding among
  among_any zero l = refl
  among_any (suc n) l =
      rw (take-suc xs n 0 l, list_any-append, among_any n (omega arith), or-false) refl

  -- What is among the first numbers is among more of them.
  among_kept : (i d : ℕ) → among xs i c ≡ true → among xs (d + i) c ≡ true
  unfolding among
  among_kept i zero h = rw zero-add h
  among_kept i (suc d) h = rw (suc-add, among_kept i d h)

  -- The number itself.
  among_here : (i : ℕ) → get_or xs i 0 ≡ c → among xs (suc i) c ≡ true
  unfolding among
  among_here i e = rw (eq-eqb (get_or xs i 0) c e, or-true)

  -- A number found is among all.
  pub among_found : (i k : ℕ) → i < k → get_or xs i 0 ≡ c → among xs k c ≡ true
  among_found i k l e =
      let s : (k - suc i) + suc i ≡ k = omega arith in
      rw s at (among_kept (suc i) (k - suc i) (among_here i e))

  -- The loop's end: none of the k numbers is c.
  pub among_end : (i k : ℕ) → i ≤ k → k ≤ i → among xs i c ≡ false → false ≡ among xs k c
  among_end i k a b h =
      let e : i ≡ k = omega arith in
      sym (rw e at h)

  -- A loop's answer where it meets c.
  pub among_met : (i k : ℕ) → get_or xs i 0 ≡ c → i < k → true ≡ among xs k c
  among_met i k e l = sym (among_found i k l e)

  -- A number among them has a place.
  pub among_place : (n : ℕ) → among xs n c ≡ true → (k : ℕ) × (k < n) × (get_or xs k 0 ≡ c)
  unfolding among
  among_place zero h = absurd (true≢false (sym h))
  among_place (suc n) h =
      ⊎_elim (λ (e : among xs n c ≡ true). let p = among_place n e in (p.0, omega (arith, p.1), p.2))
      (λ (e : eqb (get_or xs n 0) c ≡ true). (n, omega arith, eqb-true _ _ e)) (or_cases (among xs n c) (eqb (get_or xs n 0) c) h)

  -- A number that is at none of the places is not among them.
  pub absent_all : (k : ℕ) → Absent xs k c → among xs k c ≡ false
  absent_all zero a = among_none
  absent_all (suc k) a = rw add-one at (among_more k (absent_all k (λ i l. a i (omega arith))) (a k (omega arith)))

-- What the answers of such a loop take.
pub ruleset looks = (rules, among_none, among_more, among_met, among_end)
