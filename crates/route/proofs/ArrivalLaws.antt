-- `arrival_of` is the arrival of a route.
use Prim.Native.Nat.{ℕ, zero, suc, ◌≤◌, ◌<◌}
use native.Mathlib.Omega.{arith}
use native.Mathlib.Nat.{eq-or-lt_of_le, le_of_suc-le-suc}
use mathlib.Core.List.{List}
use mathlib.Core.Logic.{◌⊎◌, inl, inr, ⊎_elim}
use mathlib.Core.Path.{◌≡◌, refl}
use borrow.Author.Tests.{eq-eqb, ne_eqb}
use Rattle.route.specs.Route.{cell_at}
use Rattle.route.specs.Best.{Arrives}
use Rattle.route.specs.Arrival.{settled, arrival_of}
use Rattle.laws.proofs.Tests.{lt_or_le, eq_or_ne}

-- Of a list r and a cell d.
module _ (d : ℕ) (r : List ℕ) where
  pub settled_there : (n : ℕ) → cell_at r n ≡ d → settled d r (suc n) ≡ settled d r n
  unfolding settled
  settled_there n e = rw (eq-eqb (cell_at r n) d e, settled)

  pub settled_away : (n : ℕ) → (cell_at r n ≡ d → ⊥) → settled d r (suc n) ≡ suc n
  unfolding settled
  settled_away n h = rw (ne_eqb (cell_at r n) d h, settled)

  pub settled_le : (n : ℕ) → settled d r n ≤ n
  unfolding settled
  settled_le zero = omega arith
  settled_le (suc n) =
      ⊎_elim (λ (e : cell_at r n ≡ d). omega (arith, settled_there n e, settled_le n))
      (λ (e : cell_at r n ≡ d → ⊥). omega (arith, settled_away n e)) (eq_or_ne (cell_at r n) d)

  pub settled_held : (n t : ℕ) → settled d r n ≤ t → t < n → cell_at r t ≡ d
  settled_held zero t l h = absurd (omega arith)
  settled_held (suc n) t l h = split (eq_or_ne (cell_at r n) d) (λ (a : settled d r n ≤ t) (b : t < n). settled_held n t a b)
    where
      split : (cell_at r n ≡ d) ⊎ (cell_at r n ≡ d → ⊥) → (settled d r n ≤ t → t < n → cell_at r t ≡ d) → cell_at r t ≡ d
      split (inl e) below =
          ⊎_elim (λ (q : t ≡ n). rw q e) (λ (b : t < n). below (omega (arith, settled_there n e)) b) (eq-or-lt_of_le (le_of_suc-le-suc h))
      split (inr e) below = absurd (omega (arith, settled_away n e))

  pub settled_least : (n b : ℕ) → ((t : ℕ) → b ≤ t → t < n → cell_at r t ≡ d) → settled d r n ≤ b
  unfolding settled
  settled_least zero b h = omega arith
  settled_least (suc n) b h = split (eq_or_ne (cell_at r n) d) (settled_least n b (λ t l k. h t l (omega arith)))
    where
      late : (cell_at r n ≡ d → ⊥) → n < b
      late e = ⊎_elim (λ (k : n < b). k) (λ (k : b ≤ n). absurd (e (h n k (omega arith)))) (lt_or_le n b)

      split : (cell_at r n ≡ d) ⊎ (cell_at r n ≡ d → ⊥) → settled d r n ≤ b → settled d r (suc n) ≤ b
      split (inl e) below = omega (arith, settled_there n e)
      split (inr e) below = omega (arith, settled_away n e, late e)

module _ (r : List ℕ) (H : ℕ) where
  pub arrival_within : arrival_of r H ≤ H
  unfolding arrival_of
  arrival_within = settled_le (cell_at r H) r H

  pub arrival_arrives : Arrives H r (arrival_of r H)
  unfolding arrival_of
  arrival_arrives =
      record {
        stays = record { within = settled_le (cell_at r H) r H; held = held };
        least = λ b h. settled_least (cell_at r H) r H b (λ t l k. h.held t l (omega arith));
      }
    where
      held : (t : ℕ) → settled (cell_at r H) r H ≤ t → t ≤ H → cell_at r t ≡ cell_at r H
      held t l h =
          ⊎_elim (λ (e : t ≡ H). rw e refl) (λ (b : t < H). settled_held (cell_at r H) r H t l b) (eq-or-lt_of_le h)

  pub arrives_arrival : (a : ℕ) → Arrives H r a → a ≡ arrival_of r H
  arrives_arrival a h =
      omega (arith, h.least (arrival_of r H) arrival_arrives.stays, arrival_arrives.least a h.stays)
