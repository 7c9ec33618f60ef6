-- The walk over any rule comes first among the ways from its cell that are where they end as early.
use Prim.Native.Nat.{ℕ, zero, suc, ◌≤◌, ◌<◌}
use native.Mathlib.Omega.{arith}
use native.Mathlib.Nat.{eq-or-lt_of_le}
use mathlib.Core.Bool.{Bool, true, false}
use mathlib.Core.Logic.{◌⊎◌, inl, inr, ⊎_elim}
use mathlib.Core.Path.{◌≡◌, sym, ◌∙◌}
use Rattle.route.specs.Search.{Rule, later, ended, val}
use Rattle.laws.proofs.Tests.{lt_or_le, true_or_false}
use Rattle.route.proofs.CheapestLaws.{cost_allowed}
use Rattle.route.proofs.Ways.{Way, Held, Inside, Same, Ahead, rest, way_rest, held_rest}
use Rattle.route.proofs.ValLaws.{offer, val_ended, val_more, val_least}
use Rattle.route.proofs.WalkLaws.{trail, trail_start, trail_next, ended_stays, Next, next_of}

module _ (cells : ℕ) (dock : ℕ → Bool) where
  -- The next cell of a way that is where it ends from the walk's arrival on is not before the walk's: it has the least value too.
  next_le : (k : ℕ) (ok : Rule) (c : ℕ) (r : ℕ → ℕ) → Next cells dock k ok c → Inside cells ok → Way dock (suc k) ok r → r 0 ≡ c →
      Held k (rest r) (offer cells dock k ok c).1 → (offer cells dock k ok c).0 ≤ r 1
  next_le k ok c r next ins w e h = ⊎_elim (λ (l : r 1 < n). absurd (earlier l)) (λ (l : n ≤ r 1). l) (lt_or_le (r 1) n)
    where
      n : ℕ
      n = (offer cells dock k ok c).0

      move : ok 0 c (r 1) ≡ true
      move = rw e at (w.steps 0 (omega arith))

      earlier : r 1 < n → ⊥
      earlier l =
          omega (
            arith,
            next.first (r 1) l,
            cost_allowed (ok 0 c) (suc k) (val cells dock k (later ok)) (r 1) move,
            val_least cells dock k (later ok) (rest r) (offer cells dock k ok c).1 (λ t. ins (suc t)) (way_rest w) h,
          )

  -- A way from c whose next cell is the walk's compares with the walk as its rest does.
  compare_rest : (k : ℕ) (ok : Rule) (c : ℕ) (r : ℕ → ℕ) → ended dock (suc k) ok c ≡ false → r 0 ≡ c →
      Same k (rest r) (trail cells dock k (later ok) (offer cells dock k ok c).0) ⊎ Ahead k
      (trail cells dock k (later ok) (offer cells dock k ok c).0) (rest r) →
      Same (suc k) r (trail cells dock (suc k) ok c) ⊎ Ahead (suc k) (trail cells dock (suc k) ok c) r
  compare_rest k ok c r more e (inl s) = inl all
    where
      all : Same (suc k) r (trail cells dock (suc k) ok c)
      all zero l = e ∙ sym (trail_start cells dock (suc k) ok c)
      all (suc i) l = s i (omega arith) ∙ sym (trail_next cells dock k ok c more i)
  compare_rest k ok c r more e (inr a) =
      inr
      (record {
        beat = suc a.beat;
        within = omega (arith, a.within);
        smaller = rw (trail_next cells dock k ok c more a.beat) a.smaller;
        same = all;
      })
    where
      all : (i : ℕ) → i < suc a.beat → trail cells dock (suc k) ok c i ≡ r i
      all zero l = trail_start cells dock (suc k) ok c ∙ sym e
      all (suc i) l = trail_next cells dock k ok c more i ∙ a.same i (omega arith)

  ahead_next : (k : ℕ) (ok : Rule) (c : ℕ) (r : ℕ → ℕ) → ended dock (suc k) ok c ≡ false → r 0 ≡ c → (offer cells dock k ok c).0 < r 1 →
      Ahead (suc k) (trail cells dock (suc k) ok c) r
  ahead_next k ok c r more e l =
      record {
        beat = 1;
        within = omega arith;
        smaller = rw (trail_next cells dock k ok c more 0, trail_start cells dock k (later ok) n) l;
        same = all;
      }
    where
      n : ℕ
      n = (offer cells dock k ok c).0

      all : (i : ℕ) → i < 1 → trail cells dock (suc k) ok c i ≡ r i
      all zero h = trail_start cells dock (suc k) ok c ∙ sym e
      all (suc i) h = absurd (omega arith)

  -- A way from a cell where it has ended, and is from the first beat on, is the walk, which stays.
  ended_first : (k : ℕ) (ok : Rule) (c : ℕ) (r : ℕ → ℕ) → ended dock k ok c ≡ true → r 0 ≡ c → Held k r (val cells dock k ok c) →
      Same k r (trail cells dock k ok c)
  ended_first k ok c r has e h i l = at i l ∙ sym (at 0 (omega arith)) ∙ e ∙ sym (ended_stays cells dock k ok c has i l)
    where
      at : (j : ℕ) → j ≤ k → r j ≡ r k
      at j b = h.held j (omega (arith, val_ended cells dock k ok c has)) b

  -- Another way from c that is where it ends from `val` on is the walk, or the walk is ahead of it. Its next cell has the least
  -- value too, so it is not before the walk's, which is the first such cell; where it is the same, the rest decides.
  pub walk_first : (k : ℕ) (ok : Rule) (c : ℕ) (r : ℕ → ℕ) → Inside cells ok → Way dock k ok r → r 0 ≡ c →
      Held k r (val cells dock k ok c) → val cells dock k ok c ≤ k →
      Same k r (trail cells dock k ok c) ⊎ Ahead k (trail cells dock k ok c) r
  walk_first zero ok c r ins w e h b = inl last
    where
      last : Same 0 r (trail cells dock 0 ok c)
      last zero l = e ∙ sym (trail_start cells dock 0 ok c)
      last (suc i) l = absurd (omega arith)
  walk_first (suc k) ok c r ins w e h b =
      split (true_or_false (ended dock (suc k) ok c))
      (λ (q : r 1 ≡ n) (g : Held k (rest r) (val cells dock k (later ok) n)) (l : val cells dock k (later ok) n ≤ k).
      walk_first k (later ok) n (rest r) (λ t. ins (suc t)) (way_rest w) q g l)
    where
      n : ℕ
      n = (offer cells dock k ok c).0

      -- How the way compares with the walk from the next cell on.
      Below : Type 0
      Below =
          r 1 ≡ n → Held k (rest r) (val cells dock k (later ok) n) → val cells dock k (later ok) n ≤ k →
          Same k (rest r) (trail cells dock k (later ok) n) ⊎ Ahead k (trail cells dock k (later ok) n) (rest r)

      on : ended dock (suc k) ok c ≡ false → Next cells dock k ok c → Below →
          Same (suc k) r (trail cells dock (suc k) ok c) ⊎ Ahead (suc k) (trail cells dock (suc k) ok c) r
      on more next below = choose (eq-or-lt_of_le (next_le k ok c r next ins w e later_held))
        where
          later_held : Held k (rest r) (offer cells dock k ok c).1
          later_held = held_rest (rw (val_more cells dock k ok c more) at h)

          choose : (n ≡ r 1) ⊎ (n < r 1) → Same (suc k) r (trail cells dock (suc k) ok c) ⊎ Ahead (suc k) (trail cells dock (suc k) ok c) r
          choose (inl q) =
              compare_rest k ok c r more e (below (sym q) (rw next.value later_held) (omega (arith, next.value, next.small)))
          choose (inr l) = inr (ahead_next k ok c r more e l)

      split : (ended dock (suc k) ok c ≡ true) ⊎ (ended dock (suc k) ok c ≡ false) → Below →
          Same (suc k) r (trail cells dock (suc k) ok c) ⊎ Ahead (suc k) (trail cells dock (suc k) ok c) r
      split (inl has) below = inl (ended_first (suc k) ok c r has e h)
      split (inr more) below = on more (next_of cells dock k ok c (omega (arith, val_more cells dock k ok c more))) below
