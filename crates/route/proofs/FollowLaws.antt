-- The tests of two moves say what their conflicts say.
use Prim.Native.Nat.{ℕ, suc}
use mathlib.Core.Bool.{Bool, true, ◌&&◌, not}
use mathlib.Core.List.{List}
use mathlib.Core.Logic.{◌⊎◌, inl, inr}
use mathlib.Core.Path.{◌≡◌}
use lib.Dec.{eqb}
use borrow.Author.Tests.{eqb-true, eq-eqb}
use Rattle.route.specs.Route.{cell_at}
use Rattle.route.specs.Conflict.{Follows, FollowingConflict}
use Rattle.route.specs.ConflictTest.{enters, follows}
use Rattle.laws.proofs.Tests.{and_both, and_fst, and_snd, or_cases, or_inl, or_inr, not_is_true, not_refutes}

-- What it says that a move from c to d enters the cell that a move from x to y leaves.
abbrev Enters : ℕ → ℕ → ℕ → ℕ → Type 0
Enters c d x y = (d ≡ x) × (d ≡ c → ⊥) × (y ≡ x → ⊥)

unequal_says : (k n : ℕ) → not (eqb k n) ≡ true → k ≡ n → ⊥
unequal_says k n e h = not_refutes (eqb k n) e (eq-eqb k n h)

unequal_holds : (k n : ℕ) → (k ≡ n → ⊥) → not (eqb k n) ≡ true
unequal_holds k n h = not_is_true (eqb k n) (λ e. h (eqb-true k n e))

enters_says : (c d x y : ℕ) → enters c d x y ≡ true → Enters c d x y
unfolding enters
enters_says c d x y e =
    (eqb-true d x (and_fst (eqb d x) _ e), unequal_says d c (and_fst away _ rest), unequal_says y x (and_snd away _ rest))
  where
    away : Bool
    away = not (eqb d c)

    rest : (away && not (eqb y x)) ≡ true
    rest = and_snd (eqb d x) _ e

enters_holds : (c d x y : ℕ) → Enters c d x y → enters c d x y ≡ true
unfolding enters
enters_holds c d x y h = and_both (eq-eqb d x h.0) (and_both (unequal_holds d c h.1) (unequal_holds y x h.2))

module _ (r q : List ℕ) (t : ℕ) where
  pub following_says : follows (cell_at r t) (cell_at r (suc t)) (cell_at q t) (cell_at q (suc t)) ≡ true → FollowingConflict r q t
  unfolding follows Follows FollowingConflict
  following_says e = split (or_cases _ _ e)
    where
      split : (enters (cell_at r t) (cell_at r (suc t)) (cell_at q t) (cell_at q (suc t)) ≡ true) ⊎
          (enters (cell_at q t) (cell_at q (suc t)) (cell_at r t) (cell_at r (suc t)) ≡ true) → FollowingConflict r q t
      split (inl h) = inl (enters_says _ _ _ _ h)
      split (inr h) = inr (enters_says _ _ _ _ h)

  pub following_holds : FollowingConflict r q t → follows (cell_at r t) (cell_at r (suc t)) (cell_at q t) (cell_at q (suc t)) ≡ true
  unfolding follows Follows FollowingConflict
  following_holds (inl h) = or_inl _ _ (enters_holds _ _ _ _ h)
  following_holds (inr h) = or_inr (enters (cell_at r t) (cell_at r (suc t)) (cell_at q t) (cell_at q (suc t))) _ (enters_holds _ _ _ _ h)
