-- Near cells by row and column, and a choice of five.
use Prim.Native.Nat.{ℕ, zero, suc, ◌+◌, ◌*◌, ◌/◌, ◌%◌, ◌<◌}
use native.Mathlib.Omega.{arith}
use mathlib.Core.Bool.{Bool, true, false, ◌||◌}
use mathlib.Core.Logic.{◌⊎◌, inl, inr, ⊎_elim}
use mathlib.Core.Path.{◌≡◌, refl, sym, ◌∙◌}
use Rattle.route.specs.Route.{Neighbours, SharesSide}
use Rattle.route.specs.Moves.{near}
use Rattle.laws.proofs.Tests.{true_false_absurd}
use Rattle.route.proofs.NearLaws.{near_says, near_holds, shares_side_sym}
use Rattle.bitrows.proofs.RowsLaws.{place_same}
use Rattle.bitrows.proofs.StepLaws.{before}

module _ (w : ℕ) where
  pub near_row : (row column column' : ℕ) → column < w → column' < w → (column ≡ suc column') ⊎ (column' ≡ suc column) →
      near w (row * w + column) (row * w + column') ≡ true
  unfolding SharesSide Neighbours
  near_row row column column' h l e =
      let p : ((row * w + column) / w ≡ row) × ((row * w + column) % w ≡ column) = place_same w (row * w + column) row column h refl in
      let q : ((row * w + column') / w ≡ row) × ((row * w + column') % w ≡ column') = place_same w (row * w + column') row column' l refl in
      near_holds w (row * w + column) (row * w + column') (inr (inl (p.0 ∙ sym q.0, rw (p.1, q.1) e)))

  pub near_column : (row row' column : ℕ) → column < w → (row ≡ suc row') ⊎ (row' ≡ suc row) →
      near w (row * w + column) (row' * w + column) ≡ true
  unfolding SharesSide Neighbours
  near_column row row' column h e =
      let p : ((row * w + column) / w ≡ row) × ((row * w + column) % w ≡ column) = place_same w (row * w + column) row column h refl in
      let q : ((row' * w + column) / w ≡ row') × ((row' * w + column) % w ≡ column) = place_same w (row' * w + column) row' column h refl in
      near_holds w (row * w + column) (row' * w + column) (inr (inr (p.1 ∙ sym q.1, rw (p.0, q.0) e)))

pub near_turn : (w c d : ℕ) → near w c d ≡ true → near w d c ≡ true
near_turn w c d e =
    near_holds w d c (⊎_elim (λ (h : d ≡ c). inl (sym h)) (λ (h : SharesSide w c d). inr (shares_side_sym w c d h)) (near_says w c d e))

pub near_same : (w c : ℕ) → near w c c ≡ true
near_same w c = near_holds w c c (inl refl)

pub before_says : (φ : ℕ → Bool) (column : ℕ) → before φ column ≡ true → (column' : ℕ) × (column ≡ suc column') × (φ column' ≡ true)
unfolding before
before_says φ zero e = true_false_absurd e refl
before_says φ (suc column') e = (column', refl, e)

pub before_holds : (φ : ℕ → Bool) (column column' : ℕ) → column ≡ suc column' → φ column' ≡ true → before φ column ≡ true
unfolding before
before_holds φ zero column' e h = absurd (omega arith)
before_holds φ (suc column) column' e h =
    let q : column ≡ column' = omega arith in
    rw q h

-- One of five.
abbrev pub Five : Type 0 → Type 0 → Type 0 → Type 0 → Type 0 → Type 0
Five A B C D E = A ⊎ (B ⊎ (C ⊎ (D ⊎ E)))

pub five_says : (x y z x' y' : Bool) → (x || y || z || x' || y') ≡ true → Five (x ≡ true) (y ≡ true) (z ≡ true) (x' ≡ true) (y' ≡ true)
five_says true y z x' y' h = inl refl
five_says false true z x' y' h = inr (inl refl)
five_says false false true x' y' h = inr (inr (inl refl))
five_says false false false true y' h = inr (inr (inr (inl refl)))
five_says false false false false y' h = inr (inr (inr (inr h)))

pub five_holds : (y z x' y' z' : Bool) → Five (y ≡ true) (z ≡ true) (x' ≡ true) (y' ≡ true) (z' ≡ true) → (y || z || x' || y' || z') ≡ true
five_holds true z x' y' z' h = refl
five_holds false true x' y' z' h = refl
five_holds false false true y' z' h = refl
five_holds false false false true z' h = refl
five_holds false false false false true h = refl
five_holds false false false false false h =
    ⊎_elim (λ x. x) (⊎_elim (λ x. x) (⊎_elim (λ x. x) (⊎_elim (λ x. x) (λ x. x)))) h
