-- The walk over any rule: where `val` is at most the beats left, the walk is a way, and it is where it ends from `val` on.
use Prim.Native.Nat.{ℕ, zero, suc, ◌≤◌, ◌<◌}
use native.Mathlib.Omega.{arith}
use mathlib.Core.Bool.{Bool, true, false}
use mathlib.Core.Logic.{◌⊎◌, inl, inr, ⊎_elim}
use mathlib.Core.Path.{◌≡◌, refl, sym, ◌∙◌}
use lib.ListN.{get_or}
use Rattle.route.specs.Search.{Rule, later, cost, ended, val, onward, walk}
use Rattle.laws.proofs.Tests.{true_or_false}
use Rattle.route.proofs.CheapestLaws.{cost_allowed, cost_refused, Offer, cheapest_offer}
use Rattle.route.proofs.Ways.{Way, Held}
use Rattle.route.proofs.EndedLaws.{ended_dock, ended_holds, ended_later}
use Rattle.route.proofs.ValLaws.{offer, val_ended, val_last, val_more}

-- The walk by beat.
abbrev pub trail : (cells : ℕ) (dock : ℕ → Bool) (k : ℕ) → Rule → ℕ → ℕ → ℕ
trail cells dock k ok c i = get_or (walk cells dock k ok c) i 0

-- The next cell of the walk that has not ended: an allowed move to the first cell of least value.
pub record Next (cells : ℕ) (dock : ℕ → Bool) (k : ℕ) (ok : Rule) (c : ℕ) : Type 0 where
  pub small : (offer cells dock k ok c).1 ≤ k
  pub moves : ok 0 c (offer cells dock k ok c).0 ≡ true
  pub value : val cells dock k (later ok) (offer cells dock k ok c).0 ≡ (offer cells dock k ok c).1
  pub first : (d : ℕ) → d < (offer cells dock k ok c).0 →
      (offer cells dock k ok c).1 < cost (ok 0 c) (suc k) (val cells dock k (later ok)) d

-- The walk from c is a way and is where it ends from `val` on.
pub record Walked (cells : ℕ) (dock : ℕ → Bool) (k : ℕ) (ok : Rule) (c : ℕ) : Type 0 where
  pub way : Way dock k ok (trail cells dock k ok c)
  pub held : Held k (trail cells dock k ok c) (val cells dock k ok c)

module _ (cells : ℕ) (dock : ℕ → Bool) where
  pub trail_start : (k : ℕ) (ok : Rule) (c : ℕ) → trail cells dock k ok c 0 ≡ c
  unfolding walk
  trail_start zero ok c = refl
  trail_start (suc k) ok c = refl

  -- The walk after its first beat, where it has ended and where not.
  pub trail_stays : (k : ℕ) (ok : Rule) (c : ℕ) → ended dock (suc k) ok c ≡ true → (i : ℕ) →
      trail cells dock (suc k) ok c (suc i) ≡ trail cells dock k (later ok) c i
  unfolding walk onward
  trail_stays k ok c e i = rw (e, onward)

  pub trail_next : (k : ℕ) (ok : Rule) (c : ℕ) → ended dock (suc k) ok c ≡ false → (i : ℕ) →
      trail cells dock (suc k) ok c (suc i) ≡ trail cells dock k (later ok) (offer cells dock k ok c).0 i
  unfolding walk onward
  trail_next k ok c e i = rw (e, onward)

  -- A walk that has ended stays.
  pub ended_stays : (k : ℕ) (ok : Rule) (c : ℕ) → ended dock k ok c ≡ true → (i : ℕ) → i ≤ k → trail cells dock k ok c i ≡ c
  ended_stays k ok c e zero h = trail_start k ok c
  ended_stays zero ok c e (suc i) h = absurd (omega arith)
  ended_stays (suc k) ok c e (suc i) h =
      trail_stays k ok c e i ∙ ended_stays k (later ok) c (ended_later dock k ok c e) i (omega arith)

  pub next_of : (k : ℕ) (ok : Rule) (c : ℕ) → (offer cells dock k ok c).1 ≤ k → Next cells dock k ok c
  next_of k ok c h =
      record { small = h; moves = move; value = sym (cost_allowed (ok 0 c) (suc k) later_val n move) ∙ found.costs; first = found.first }
    where
      later_val : ℕ → ℕ
      later_val = val cells dock k (later ok)

      n : ℕ
      n = (offer cells dock k ok c).0

      found : Offer (cost (ok 0 c) (suc k) later_val) cells (offer cells dock k ok c)
      found = cheapest_offer (suc k) (cost (ok 0 c) (suc k) later_val) cells (omega arith)

      move : ok 0 c n ≡ true
      move =
          ⊎_elim (λ (e : ok 0 c n ≡ true). e)
          (λ (e : ok 0 c n ≡ false). absurd (omega (arith, cost_refused (ok 0 c) (suc k) later_val n e, found.costs)))
          (true_or_false (ok 0 c n))

  walked_ended : (k : ℕ) (ok : Rule) (c : ℕ) → ended dock k ok c ≡ true → Walked cells dock k ok c
  walked_ended k ok c e =
      record {
        way = record {
          steps = λ i h. rw (at i (omega arith), at (suc i) h) (ended_holds dock k ok c e i h);
          ends = rw (at k (omega arith)) (ended_dock dock k ok c e);
        };
        held = record {
          within = omega (arith, val_ended cells dock k ok c e);
          held = λ i l h. at i h ∙ sym (at k (omega arith));
        };
      }
    where
      at : (i : ℕ) → i ≤ k → trail cells dock k ok c i ≡ c
      at = ended_stays k ok c e

  walked_more : (k : ℕ) (ok : Rule) (c : ℕ) → ended dock (suc k) ok c ≡ false → Next cells dock k ok c →
      Walked cells dock k (later ok) (offer cells dock k ok c).0 → Walked cells dock (suc k) ok c
  walked_more k ok c e next w =
      record {
        way = record { steps = step; ends = rw (after k) w.way.ends };
        held = record { within = omega (arith, val_more cells dock k ok c e, next.small); held = hold };
      }
    where
      n : ℕ
      n = (offer cells dock k ok c).0

      after : (i : ℕ) → trail cells dock (suc k) ok c (suc i) ≡ trail cells dock k (later ok) n i
      after = trail_next k ok c e

      step : (i : ℕ) → i < suc k → ok i (trail cells dock (suc k) ok c i) (trail cells dock (suc k) ok c (suc i)) ≡ true
      step zero h = rw (after 0, trail_start (suc k) ok c, trail_start k (later ok) n) next.moves
      step (suc i) h = rw (after i, after (suc i)) (w.way.steps i (omega arith))

      hold : (i : ℕ) → val cells dock (suc k) ok c ≤ i → i ≤ suc k → trail cells dock (suc k) ok c i ≡ trail cells dock (suc k) ok c (suc k)
      hold zero l b = absurd (omega (arith, val_more cells dock k ok c e))
      hold (suc i) l b =
          after i ∙ w.held.held i (omega (arith, val_more cells dock k ok c e, next.value)) (omega arith) ∙ sym (after k)

  pub walked : (k : ℕ) (ok : Rule) (c : ℕ) → val cells dock k ok c ≤ k → Walked cells dock k ok c
  walked zero ok c h =
      ⊎_elim (λ (e : ended dock 0 ok c ≡ true). walked_ended 0 ok c e)
      (λ (e : ended dock 0 ok c ≡ false). absurd (omega (arith, val_last cells dock ok c e))) (true_or_false (ended dock 0 ok c))
  walked (suc k) ok c h =
      split (true_or_false (ended dock (suc k) ok c)) (λ (b : val cells dock k (later ok) n ≤ k). walked k (later ok) n b)
    where
      n : ℕ
      n = (offer cells dock k ok c).0

      split : (ended dock (suc k) ok c ≡ true) ⊎ (ended dock (suc k) ok c ≡ false) →
          (val cells dock k (later ok) n ≤ k → Walked cells dock k (later ok) n) → Walked cells dock (suc k) ok c
      split (inl e) below = walked_ended (suc k) ok c e
      split (inr e) below =
          let next : Next cells dock k ok c = next_of k ok c (omega (arith, val_more cells dock k ok c e)) in
          walked_more k ok c e next (below (omega (arith, next.value, next.small)))
