-- Laws of `near`: what it says, and that it is symmetric.
use Prim.Native.Nat.{ℕ, suc, ◌/◌, ◌%◌}
use mathlib.Core.Bool.{Bool, true, ◌&&◌, ◌||◌}
use mathlib.Core.Logic.{◌⊎◌, inl, inr, ⊎_elim}
use mathlib.Core.Path.{◌≡◌, sym}
use lib.Dec.{eqb}
use borrow.Author.Tests.{eqb-true, eq-eqb}
use Rattle.route.specs.Route.{Neighbours, SharesSide}
use Rattle.route.specs.Moves.{neighbours, near}
use Rattle.laws.proofs.Tests.{and_both, and_fst, and_snd, or_cases, or_inl, or_inr}

neighbours_says : (k n : ℕ) → neighbours k n ≡ true → Neighbours k n
unfolding neighbours Neighbours
neighbours_says k n e =
    ⊎_elim (λ (h : eqb k (suc n) ≡ true). inl (eqb-true k (suc n) h)) (λ (h : eqb n (suc k) ≡ true). inr (eqb-true n (suc k) h))
    (or_cases (eqb k (suc n)) (eqb n (suc k)) e)

neighbours_holds : (k n : ℕ) → Neighbours k n → neighbours k n ≡ true
unfolding neighbours Neighbours
neighbours_holds k n =
    ⊎_elim (λ (h : k ≡ suc n). or_inl (eqb k (suc n)) (eqb n (suc k)) (eq-eqb k (suc n) h))
    (λ (h : n ≡ suc k). or_inr (eqb k (suc n)) (eqb n (suc k)) (eq-eqb n (suc k) h))

line_says : (x y k n : ℕ) → (eqb x y && neighbours k n) ≡ true → (x ≡ y) × Neighbours k n
line_says x y k n e = (eqb-true x y (and_fst (eqb x y) (neighbours k n) e), neighbours_says k n (and_snd (eqb x y) (neighbours k n) e))

line_holds : (x y k n : ℕ) → (x ≡ y) × Neighbours k n → (eqb x y && neighbours k n) ≡ true
line_holds x y k n h = and_both (eq-eqb x y h.0) (neighbours_holds k n h.1)

pub near_says : (w c d : ℕ) → near w c d ≡ true → (d ≡ c) ⊎ SharesSide w c d
unfolding near SharesSide
near_says w c d e = outer (or_cases (eqb d c || row) column e)
  where
    row : Bool
    row = eqb (c / w) (d / w) && neighbours (c % w) (d % w)

    column : Bool
    column = eqb (c % w) (d % w) && neighbours (c / w) (d / w)

    inner : (eqb d c ≡ true) ⊎ (row ≡ true) → (d ≡ c) ⊎ SharesSide w c d
    inner (inl h) = inl (eqb-true d c h)
    inner (inr h) = inr (inl (line_says (c / w) (d / w) (c % w) (d % w) h))

    outer : ((eqb d c || row) ≡ true) ⊎ (column ≡ true) → (d ≡ c) ⊎ SharesSide w c d
    outer (inl h) = inner (or_cases (eqb d c) row h)
    outer (inr h) = inr (inr (line_says (c % w) (d % w) (c / w) (d / w) h))

pub near_holds : (w c d : ℕ) → (d ≡ c) ⊎ SharesSide w c d → near w c d ≡ true
unfolding near SharesSide
near_holds w c d = cases
  where
    row : Bool
    row = eqb (c / w) (d / w) && neighbours (c % w) (d % w)

    column : Bool
    column = eqb (c % w) (d % w) && neighbours (c / w) (d / w)

    cases : (d ≡ c) ⊎ SharesSide w c d → (eqb d c || row || column) ≡ true
    cases (inl h) = or_inl (eqb d c || row) column (or_inl (eqb d c) row (eq-eqb d c h))
    cases (inr (inl h)) = or_inl (eqb d c || row) column (or_inr (eqb d c) row (line_holds (c / w) (d / w) (c % w) (d % w) h))
    cases (inr (inr h)) = or_inr (eqb d c || row) column (line_holds (c % w) (d % w) (c / w) (d / w) h)

neighbours_sym : (k n : ℕ) → Neighbours k n → Neighbours n k
unfolding Neighbours
neighbours_sym k n (inl e) = inr e
neighbours_sym k n (inr e) = inl e

pub shares_side_sym : (w c d : ℕ) → SharesSide w c d → SharesSide w d c
unfolding SharesSide
shares_side_sym w c d (inl h) = inl (sym h.0, neighbours_sym (c % w) (d % w) h.1)
shares_side_sym w c d (inr h) = inr (sym h.0, neighbours_sym (c / w) (d / w) h.1)
