-- `val` is the least arrival over any rule: no way arrives earlier.
use Prim.Native.Nat.{ℕ, zero, suc, ◌≤◌, ◌<◌}
use native.Mathlib.Omega.{arith}
use mathlib.Core.Bool.{Bool, true, false}
use mathlib.Core.Logic.{⊎_elim}
use mathlib.Core.Path.{◌≡◌}
use Rattle.route.specs.Search.{Rule, later, cost, cheapest, ended, val}
use Rattle.laws.proofs.Tests.{true_or_false}
use Rattle.route.proofs.CheapestLaws.{cost_allowed, cheapest_le}
use Rattle.route.proofs.Ways.{Way, Held, Inside, rest, way_rest, held_rest}
use Rattle.route.proofs.EndedLaws.{way_ended}

module _ (cells : ℕ) (dock : ℕ → Bool) where
  -- The cheapest next cell from c with k + 1 beats left, with its value.
  abbrev pub offer : ℕ → Rule → ℕ → ℕ × ℕ
  offer k ok c = cheapest (suc k) (cost (ok 0 c) (suc k) (val cells dock k (later ok))) cells

  pub val_ended : (k : ℕ) (ok : Rule) (c : ℕ) → ended dock k ok c ≡ true → val cells dock k ok c ≡ 0
  unfolding val
  val_ended zero ok c e = rw (e, val)
  val_ended (suc k) ok c e = rw (e, val)

  pub val_last : (ok : Rule) (c : ℕ) → ended dock 0 ok c ≡ false → val cells dock 0 ok c ≡ 1
  unfolding val
  val_last ok c e = rw (e, val)

  pub val_more : (k : ℕ) (ok : Rule) (c : ℕ) → ended dock (suc k) ok c ≡ false → val cells dock (suc k) ok c ≡ suc (offer k ok c).1
  unfolding val
  val_more k ok c e = rw (e, val)

  val_le_suc : (k : ℕ) (ok : Rule) (c : ℕ) → val cells dock (suc k) ok c ≤ suc (offer k ok c).1
  val_le_suc k ok c =
      ⊎_elim (λ (e : ended dock (suc k) ok c ≡ true). omega (arith, val_ended (suc k) ok c e))
      (λ (e : ended dock (suc k) ok c ≡ false). omega (arith, val_more k ok c e)) (true_or_false (ended dock (suc k) ok c))

  offer_le : (k : ℕ) (ok : Rule) (c d : ℕ) → ok 0 c d ≡ true → d < cells → (offer k ok c).1 ≤ val cells dock k (later ok) d
  offer_le k ok c d e h =
      rw (cost_allowed (ok 0 c) (suc k) (val cells dock k (later ok)) d e)
      at (cheapest_le (suc k) (cost (ok 0 c) (suc k) (val cells dock k (later ok))) cells d h)

  -- A way that is where it ends from beat j on: at beat 0 it has ended; later its rest decides.
  pub val_least : (k : ℕ) (ok : Rule) (r : ℕ → ℕ) (j : ℕ) → Inside cells ok → Way dock k ok r → Held k r j → val cells dock k ok (r 0) ≤ j
  val_least k ok r zero ins w h = omega (arith, val_ended k ok (r 0) (way_ended dock k ok r w h))
  val_least zero ok r (suc j) ins w h = absurd (omega (arith, h.within))
  val_least (suc k) ok r (suc j) ins w h =
      omega (
        arith,
        val_le_suc k ok (r 0),
        offer_le k ok (r 0) (r 1) (w.steps 0 (omega arith)) (ins 0 (r 0) (r 1) (w.steps 0 (omega arith))),
        val_least k (later ok) (rest r) j (λ t. ins (suc t)) (way_rest w) (held_rest h),
      )
