-- Quiet prefixes: their answers are the sequential planner's, and open steps leave them as they are.
use Prim.Native.Nat.{ℕ, zero, suc, ◌≤◌, ◌<◌}
use native.Mathlib.Omega.{arith}
use mathlib.Core.Bool.{true}
use mathlib.Core.List.{map}
use mathlib.Core.Logic.{⊎_elim}
use mathlib.Core.Path.{◌≡◌, refl, ◌∙◌}
use Rattle.route.specs.Route.{Answer, heard}
use Rattle.route.specs.Sequential.{sequential}
use Rattle.laws.proofs.Tests.{lt_or_le, true_false_absurd}
use Rattle.reference.specs.Ranges.{below}
use Rattle.reference.specs.State.{Machine, State, views}
use Rattle.reference.specs.Step.{Step, plan, deliver, is_open}
use Rattle.reference.specs.Take.{plan_as, deliver_to, effect, counted, after_step}
use Rattle.reference.specs.History.{Reachable, stay, next}
use Rattle.reference.proofs.RangeLaws.{below_same, below_map}
use Rattle.reference.proofs.OpenLaws.{nil_empty, plan_due, deliver_above, deliver_full}
use Rattle.reference.proofs.QuiescentLaws.{Idle}
use Rattle.reference.proofs.TakeLaws.{chan_above, plan_clears, plan_answer, deliver_due, deliver_answer, deliver_chan}
use Rattle.reference.proofs.Invariant.{Coherent, view_heard}

module _ (M : Machine) (s : State) where
  quiescent_shorter : (k : ℕ) → Idle (suc k) s → Idle k s
  quiescent_shorter k q =
      record { not_due = λ i l. q.not_due i (omega arith); no_message = λ i j a l. q.no_message i j a (omega arith) }

  -- Carrier k of a quiescent prefix has heard the answers of all above it.
  heard_all : Coherent M s → (k : ℕ) → Idle (suc k) s → views s k ≡ map heard (below k s.answer)
  unfolding views
  heard_all h k q = below_same k (s.view k) (λ j. heard (s.answer j)) heard_one ∙ below_map heard k s.answer
    where
      heard_one : (j : ℕ) → j < k → s.view k j ≡ heard (s.answer j)
      heard_one j l = view_heard M s h k j l (q.no_message k j l (omega arith)) (q.not_due j (omega arith))

  -- Each quiescent carrier has answered best against the answers above it, which are the sequential planner's by induction.
  pub quiescent_sequential : Coherent M s → (k : ℕ) → Idle k s → below k s.answer ≡ sequential M.respond k
  unfolding below sequential
  quiescent_sequential h zero q = refl
  quiescent_sequential h (suc k) q = go (quiescent_sequential h k (quiescent_shorter k q))
    where
      go : below k s.answer ≡ sequential M.respond k → below (suc k) s.answer ≡ sequential M.respond (suc k)
      go ahead = rw (h.is_best k (q.not_due k (omega arith)), heard_all h k q, ahead)

-- The first k carriers are as they were: who is due, what is under way to them, what they answer.
pub record SameBelow (k : ℕ) (s z : State) : Type 0 where
  pub due : (i : ℕ) → i < k → z.due i ≡ s.due i
  pub chan : (i j : ℕ) → i < k → z.chan i j ≡ s.chan i j
  pub answer : (i : ℕ) → i < k → z.answer i ≡ s.answer i

module _ (M : Machine) (s : State) (k : ℕ) where
  plan_same : (i : ℕ) (x : Answer) → k ≤ i → SameBelow k s (plan_as s i x)
  plan_same i x h =
      record {
        due = λ i' l. (plan_clears s i x).elsewhere i' (λ q. omega arith);
        chan = λ i' j l. chan_above s i x i' j (omega arith);
        answer = λ i' l. (plan_answer s i x).elsewhere i' (λ q. omega arith);
      }

  deliver_same : (j i : ℕ) → k ≤ i → SameBelow k s (deliver_to s j i)
  deliver_same j i h =
      record {
        due = λ i' l. (deliver_due s j i).elsewhere i' (λ q. omega arith);
        chan = λ i' j' l. rw ((deliver_chan s j i).elsewhere i' (λ q. omega arith));
        answer = λ i' l. rw (deliver_answer s j i);
      }

  -- The taken count does not matter.
  counted_same : {z : State} → SameBelow k s z → SameBelow k s (counted z)
  unfolding counted
  counted_same h = record { due = h.due; chan = h.chan; answer = h.answer }

  -- No step of a quiescent carrier is open, and a step of a carrier below changes nothing among the first k.
  step_same : Idle k s → (x : Step) → is_open M s x ≡ true → SameBelow k s (after_step M s x)
  unfolding after_step effect
  step_same q (plan i) e =
      ⊎_elim (λ (l : i < k). true_false_absurd (plan_due M s i e) (q.not_due i l))
      (λ (l : k ≤ i). counted_same (plan_same i (M.respond i (views s i)) l)) (lt_or_le i k)
  step_same q (deliver j i) e =
      ⊎_elim
      (λ (l : i < k). true_false_absurd (nil_empty (s.chan i j) (q.no_message i j (deliver_above M s j i e) l)) (deliver_full M s j i e))
      (λ (l : k ≤ i). counted_same (deliver_same j i l)) (lt_or_le i k)

  same_quiescent : {z : State} → Idle k s → SameBelow k s z → Idle k z
  same_quiescent q h =
      record {
        not_due = λ i l. h.due i l ∙ q.not_due i l;
        no_message = λ i j a l. h.chan i j l ∙ q.no_message i j a l;
      }

pub reaches_quiescence : (M : Machine) (k : ℕ) {s z : State} {t : ℕ} → Idle k s → Reachable M s z t →
    Idle k z × ((i : ℕ) → i < k → z.answer i ≡ s.answer i)
reaches_quiescence M k q stay = (q, λ i l. refl)
reaches_quiescence M k {s = s} q (next x e p) =
    let h = step_same M s k q x e in
    let r = reaches_quiescence M k (same_quiescent M s k q h) p in
    (r.0, λ i l. r.1 i l ∙ h.answer i l)
