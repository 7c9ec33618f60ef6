-- Laws of `cost` and `cheapest`: the offer found costs no more than any cell, and is the first that costs so.
use Prim.Native.Nat.{ℕ, zero, suc, ◌≤◌, ◌<◌}
use native.Mathlib.Omega.{arith}
use native.Mathlib.Nat.{not-suc-le-zero, eq-or-lt_of_le, le_of_suc-le-suc}
use mathlib.Core.Bool.{Bool, true, false}
use mathlib.Core.Logic.{◌⊎◌, inl, inr, ⊎_elim}
use mathlib.Core.Path.{◌≡◌, refl}
use lib.Dec.{ltb}
use borrow.Author.Tests.{ltb-true, ltb-false}
use Rattle.route.specs.Search.{cost, cheaper, cheapest}
use Rattle.laws.proofs.Tests.{true_or_false}

pub cost_allowed : (move : ℕ → Bool) (never : ℕ) (value : ℕ → ℕ) (d : ℕ) → move d ≡ true → cost move never value d ≡ value d
unfolding cost
cost_allowed move never value d e = rw (e, cost)

pub cost_refused : (move : ℕ → Bool) (never : ℕ) (value : ℕ → ℕ) (d : ℕ) → move d ≡ false → cost move never value d ≡ never
unfolding cost
cost_refused move never value d e = rw (e, cost)

cheaper_takes : (hand : ℕ × ℕ) (d x : ℕ) → ltb x hand.1 ≡ true → cheaper hand d x ≡ (d, x)
unfolding cheaper
cheaper_takes hand d x e = rw (e, cheaper)

cheaper_keeps : (hand : ℕ × ℕ) (d x : ℕ) → ltb x hand.1 ≡ false → cheaper hand d x ≡ hand
unfolding cheaper
cheaper_keeps hand d x e = rw (e, cheaper)

-- x is a cell below n with its cost, and every cell before it costs more.
pub record Offer (φ : ℕ → ℕ) (n : ℕ) (x : ℕ × ℕ) : Type 0 where
  pub below : x.0 < n
  pub costs : φ x.0 ≡ x.1
  pub first : (d : ℕ) → d < x.0 → x.1 < φ d

module _ (never : ℕ) (φ : ℕ → ℕ) where
  pub cheapest_le : (n d : ℕ) → d < n → (cheapest never φ n).1 ≤ φ d
  unfolding cheapest
  cheapest_le zero d h = absurd (not-suc-le-zero h)
  cheapest_le (suc n) d h = split (true_or_false (ltb (φ n) hand.1)) (λ (b : d < n). cheapest_le n d b)
    where
      hand : ℕ × ℕ
      hand = cheapest never φ n

      split : (ltb (φ n) hand.1 ≡ true) ⊎ (ltb (φ n) hand.1 ≡ false) → (d < n → hand.1 ≤ φ d) → (cheaper hand n (φ n)).1 ≤ φ d
      split (inl e) below =
          rw (cheaper_takes hand n (φ n) e)
          (⊎_elim
          (λ (q : d ≡ n). rw q (omega arith))
          (λ (b : d < n). omega (arith, ltb-true (φ n) hand.1 e, below b))
          (eq-or-lt_of_le (le_of_suc-le-suc h)))
      split (inr e) below =
          rw (cheaper_keeps hand n (φ n) e)
          (⊎_elim (λ (q : d ≡ n). rw q (ltb-false (φ n) hand.1 e)) below (eq-or-lt_of_le (le_of_suc-le-suc h)))

  pub cheapest_offer : (n : ℕ) → (cheapest never φ n).1 < never → Offer φ n (cheapest never φ n)
  unfolding cheapest
  cheapest_offer zero h = absurd (omega arith)
  cheapest_offer (suc n) h = split (true_or_false (ltb (φ n) hand.1)) (λ (b : hand.1 < never). cheapest_offer n b)
    where
      hand : ℕ × ℕ
      hand = cheapest never φ n

      wider : Offer φ n hand → Offer φ (suc n) hand
      wider o = record { below = omega (arith, o.below); costs = o.costs; first = o.first }

      split : (ltb (φ n) hand.1 ≡ true) ⊎ (ltb (φ n) hand.1 ≡ false) → (hand.1 < never → Offer φ n hand) →
          Offer φ (suc n) (cheaper hand n (φ n))
      split (inl e) earlier =
          rw (cheaper_takes hand n (φ n) e)
          (record {
            below = omega arith;
            costs = refl;
            first = λ (d : ℕ) (b : d < n). omega (arith, ltb-true (φ n) hand.1 e, cheapest_le n d b);
          })
      split (inr e) earlier = rw (cheaper_keeps hand n (φ n) e) (wider (earlier (rw (cheaper_keeps hand n (φ n) e) at h)))
