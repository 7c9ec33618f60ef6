-- Reached states are in range: no channel has more than depth messages, and the count is at most 999,999.
use Prim.Native.Nat.{ℕ, ◌≤◌, ◌<◌}
use native.Mathlib.Omega.{arith}
use mathlib.Core.Bool.{Bool, true, false}
use mathlib.Core.List.{List, [], ◌∷◌, ◌++◌}
use mathlib.Core.Logic.{◌⊎◌, inl, inr}
use mathlib.Core.Path.{◌≡◌, refl}
use lib.ListN.{length, length-append}
use Rattle.route.specs.Route.{Answer}
use Rattle.laws.proofs.Tests.{lt_or_le, eq_or_ne}
use Rattle.reference.specs.State.{Machine, State, fresh, views}
use Rattle.reference.specs.Step.{Step, plan, deliver, is_open}
use Rattle.reference.specs.Take.{is_news, plan_as, newer, deliver_to, effect, counted, after_step}
use Rattle.reference.specs.History.{Reachable, stay, next}
use Rattle.reference.specs.Bounds.{InRange}
use Rattle.reference.proofs.OpenLaws.{plan_capacity}
use Rattle.reference.proofs.CountLaws.{step_counts}
use Rattle.reference.proofs.TakeLaws.{plan_keeps, sent_below_lem, chan_other, chan_above, deliver_chan}

-- A channel after a plan of i: as it was, or from i to a carrier below with one message more.
pub plan_chan_cases : (s : State) (i : ℕ) (x : Answer) (k j : ℕ) → ((plan_as s i x).chan k j ≡ s.chan k j) ⊎
    ((j ≡ i) × (i < k) × ((plan_as s i x).chan k j ≡ s.chan k j ++ (x ∷ [])))
plan_chan_cases s i x k j = go (is_news s i x) refl (eq_or_ne j i) (lt_or_le i k)
  where
    go : (y : Bool) → is_news s i x ≡ y → (j ≡ i) ⊎ (j ≡ i → ⊥) → (i < k) ⊎ (k ≤ i) →
        ((plan_as s i x).chan k j ≡ s.chan k j) ⊎ ((j ≡ i) × (i < k) × ((plan_as s i x).chan k j ≡ s.chan k j ++ (x ∷ [])))
    go y e (inr n) l = inl (chan_other s i x k j n)
    go y e (inl q) (inr l) = inl (chan_above s i x k j l)
    go true e (inl q) (inl l) = inr (q, l, rw q (sent_below_lem s i x e k l))
    go false e (inl q) (inl l) = inl (rw (plan_keeps s i x e))

-- A channel after a delivery: as it was, or without its oldest message.
pub deliver_chan_cases : (s : State) (j i k j' : ℕ) → ((deliver_to s j i).chan k j' ≡ s.chan k j') ⊎
    ((deliver_to s j i).chan k j' ≡ newer (s.chan k j'))
deliver_chan_cases s j i k j' = go (eq_or_ne k i) (eq_or_ne j' j)
  where
    go : (k ≡ i) ⊎ (k ≡ i → ⊥) → (j' ≡ j) ⊎ (j' ≡ j → ⊥) → ((deliver_to s j i).chan k j' ≡ s.chan k j') ⊎
        ((deliver_to s j i).chan k j' ≡ newer (s.chan k j'))
    go (inr n) m = inl (rw ((deliver_chan s j i).elsewhere k n))
    go (inl q) (inl m) = inr (rw (q, m) (deliver_chan s j i).there)
    go (inl q) (inr m) = inl (rw q ((deliver_chan s j i).beside j' m))

pub newer_shorter : (xs : List Answer) → length (newer xs) ≤ length xs
unfolding newer
newer_shorter [] = omega arith
newer_shorter (x ∷ xs) = omega arith

module _ (M : Machine) (s : State) where
  step_channels : InRange M s → (x : Step) → is_open M s x ≡ true → (k j : ℕ) → j < k → k < M.carriers →
      length ((after_step M s x).chan k j) ≤ M.depth
  unfolding after_step effect counted
  step_channels r (plan i) e k j l h = go (plan_chan_cases s i x k j)
    where
      x : Answer
      x = M.respond i (views s i)

      go : ((plan_as s i x).chan k j ≡ s.chan k j) ⊎ ((j ≡ i) × (i < k) × ((plan_as s i x).chan k j ≡ s.chan k j ++ (x ∷ []))) →
          length ((plan_as s i x).chan k j) ≤ M.depth
      go (inl q) = rw q (r.channels k j l h)
      go (inr q) =
          rw (q.2, q.0)
          (omega (arith, length-append (s.chan k i) (x ∷ []), plan_capacity M s i k e q.1 h))
  step_channels r (deliver j' i) e k j l h = go (deliver_chan_cases s j' i k j)
    where
      go : ((deliver_to s j' i).chan k j ≡ s.chan k j) ⊎ ((deliver_to s j' i).chan k j ≡ newer (s.chan k j)) →
          length ((deliver_to s j' i).chan k j) ≤ M.depth
      go (inl q) = rw q (r.channels k j l h)
      go (inr q) = rw q (omega (arith, newer_shorter (s.chan k j), r.channels k j l h))

  pub step_in_range : InRange M s → (x : Step) → is_open M s x ≡ true → InRange M (after_step M s x)
  step_in_range r x e = record { channels = step_channels r x e; counted = omega (arith, step_counts M s x) }

pub fresh_in_range : (M : Machine) → InRange M fresh
unfolding fresh
fresh_in_range M = record { channels = λ i j l h. omega arith; counted = omega arith }

pub reaches_in_range : (M : Machine) {s z : State} {t : ℕ} → InRange M s → Reachable M s z t → InRange M z
reaches_in_range M r stay = r
reaches_in_range M {s = s} r (next x e p) = reaches_in_range M (step_in_range M s r x e) p
