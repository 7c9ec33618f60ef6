-- Idle prefixes and silence: some step is open, or nobody is due and nothing is under way.
use Prim.Native.Nat.{ℕ, ◌≤◌, ◌<◌}
use mathlib.Core.Bool.{Bool, true, false, not}
use mathlib.Core.List.{[]}
use mathlib.Core.Logic.{⊎_elim}
use mathlib.Core.Path.{◌≡◌}
use lib.ListN.{length}
use borrow.Author.Tests.{not-true}
use Rattle.laws.proofs.Tests.{and_both, and_fst, and_snd, not_true_is_false, true_or_false, true_false_absurd}
use Rattle.laws.specs.Verdict.{each}
use Rattle.reference.specs.State.{Machine, State}
use Rattle.reference.specs.Step.{Step, plan, deliver, is_empty, is_open}
use Rattle.reference.specs.Quiescent.{idle_at, idle}
use Rattle.laws.proofs.HoldLaws.{each_holds, each_true}
use Rattle.reference.proofs.OpenLaws.{empty_nil, nil_empty, plan_within, plan_due, plan_open}
use Rattle.reference.proofs.OpenLaws.{deliver_above, deliver_within, deliver_full, deliver_open}

-- None of the first k carriers is due and nothing is under way among them.
pub record Idle (k : ℕ) (s : State) : Type 0 where
  pub not_due : (i : ℕ) → i < k → s.due i ≡ false
  pub no_message : (i j : ℕ) → j < i → i < k → s.chan i j ≡ []

false_not : (x : Bool) → x ≡ false → not x ≡ true
false_not x e = rw e

pub idle_says : (k : ℕ) (s : State) → idle k s ≡ true → Idle k s
unfolding idle idle_at
idle_says k s e = record { not_due = λ i l. not-true (s.due i) (and_fst (not (s.due i)) (empty i) (at i l)); no_message = no_message }
  where
    empty : ℕ → Bool
    empty i = each i (λ j. is_empty (s.chan i j))

    at : (i : ℕ) → i < k → idle_at s i ≡ true
    at i l = each_holds k (idle_at s) e i l

    no_message : (i j : ℕ) → j < i → i < k → s.chan i j ≡ []
    no_message i j h l =
        empty_nil (s.chan i j) (each_holds i (λ j. is_empty (s.chan i j)) (and_snd (not (s.due i)) (empty i) (at i l)) j h)

pub idle_holds : (k : ℕ) (s : State) → Idle k s → idle k s ≡ true
unfolding idle idle_at
idle_holds k s q = each_true k (idle_at s) (λ i l. and_both (false_not (s.due i) (q.not_due i l)) (empty i l))
  where
    empty : (i : ℕ) → i < k → each i (λ j. is_empty (s.chan i j)) ≡ true
    empty i l = each_true i (λ j. is_empty (s.chan i j)) (λ j h. nil_empty (s.chan i j) (q.no_message i j h l))

module _ (M : Machine) (s : State) where
  -- Among idle carriers no step is open.
  pub idle_shut : Idle M.carriers s → (x : Step) → is_open M s x ≡ false
  idle_shut q (plan i) =
      not_true_is_false (is_open M s (plan i)) (λ e. true_false_absurd (plan_due M s i e) (q.not_due i (plan_within M s i e)))
  idle_shut q (deliver j i) =
      not_true_is_false (is_open M s (deliver j i))
      (λ e. true_false_absurd (nil_empty (s.chan i j) (q.no_message i j (deliver_above M s j i e) (deliver_within M s j i e)))
      (deliver_full M s j i e))

  -- Where no step is open the channels are empty, since no delivery is open; so every channel has capacity, and nobody is due.
  pub shut_idle : 1 ≤ M.depth → ((x : Step) → is_open M s x ≡ false) → Idle M.carriers s
  shut_idle d h = record { not_due = not_due; no_message = no_message }
    where
      no_message : (i j : ℕ) → j < i → i < M.carriers → s.chan i j ≡ []
      no_message i j a l =
          ⊎_elim (λ (e : is_empty (s.chan i j) ≡ true). empty_nil (s.chan i j) e)
          (λ (e : is_empty (s.chan i j) ≡ false). true_false_absurd (deliver_open M s j i a l e) (h (deliver j i)))
          (true_or_false (is_empty (s.chan i j)))

      capacity : (i k : ℕ) → i < k → k < M.carriers → length (s.chan k i) < M.depth
      capacity i k a l = rw (no_message k i a l) d

      not_due : (i : ℕ) → i < M.carriers → s.due i ≡ false
      not_due i l = not_true_is_false (s.due i) (λ e. true_false_absurd (plan_open M s i l e (capacity i)) (h (plan i)))
