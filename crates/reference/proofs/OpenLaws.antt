-- What an open step says, and what makes a step open.
use Prim.Native.Nat.{ℕ, ◌+◌, ◌≤◌, ◌<◌}
use mathlib.Core.Bool.{true, false, not}
use mathlib.Core.List.{List, [], ◌∷◌}
use mathlib.Core.Logic.{⊎_elim}
use mathlib.Core.Path.{◌≡◌, refl, ◌∙◌}
use lib.Dec.{leb, ltb}
use lib.ListN.{length}
use borrow.Author.Tests.{ltb-true, lt-ltb, le-leb, lt-leb, not-true}
use Rattle.laws.proofs.VerdictLaws.{then_both, then_passed, demand_holds, demand_passes, passes_says}
use Rattle.laws.proofs.EachLaws.{Decides, each_passed, all_passes}
use Rattle.laws.specs.Verdict.{passed, passes, demand}
use Rattle.route.specs.Route.{Answer}
use Rattle.laws.proofs.Tests.{and_both, and_fst, and_snd, or_cases, or_inl, or_inr, lt_or_le, true_false_absurd}
use Rattle.reference.specs.State.{Machine, State}
use Rattle.reference.specs.Step.{Step, plan, deliver, is_there, has_capacity, is_empty, waits_for, is_open}

pub empty_nil : (xs : List Answer) → is_empty xs ≡ true → xs ≡ []
unfolding is_empty
empty_nil [] e = refl
empty_nil (x ∷ xs) e = true_false_absurd e refl

pub nil_empty : (xs : List Answer) → xs ≡ [] → is_empty xs ≡ true
unfolding is_empty
nil_empty xs e = rw e

module _ (M : Machine) (s : State) where
  pub open_there : (x : Step) → is_open M s x ≡ true → is_there M x ≡ true
  unfolding is_open
  open_there x e = and_fst (is_there M x) (passes (waits_for M s x)) e

  pub open_ready : (x : Step) → is_open M s x ≡ true → waits_for M s x ≡ passed
  unfolding is_open
  open_ready x e = passes_says (waits_for M s x) (and_snd (is_there M x) (passes (waits_for M s x)) e)

  pub ready_open : (x : Step) → is_there M x ≡ true → waits_for M s x ≡ passed → is_open M s x ≡ true
  unfolding is_open passes
  ready_open x e h = and_both e (rw h)

  pub plan_within : (i : ℕ) → is_open M s (plan i) ≡ true → i < M.carriers
  unfolding is_there
  plan_within i e = ltb-true i M.carriers (open_there (plan i) e)

  pub plan_due : (i : ℕ) → is_open M s (plan i) ≡ true → s.due i ≡ true
  unfolding waits_for
  plan_due i e = demand_holds (s.due i) 8 0 (then_both _ _ (open_ready (plan i) e)).0

  -- A channel from i has capacity if it leads to a carrier above, or has fewer than depth messages.
  pub capacity_means : (i : ℕ) → Decides (has_capacity M s i) (λ k. i < k → length (s.chan k i) < M.depth)
  unfolding has_capacity
  capacity_means i k = (
    λ e l.
        ⊎_elim (λ (p : leb k i ≡ true). true_false_absurd p (lt-leb k i l))
        (λ (p : ltb (length (s.chan k i)) M.depth ≡ true). ltb-true (length (s.chan k i)) M.depth p)
        (or_cases (leb k i) (ltb (length (s.chan k i)) M.depth) e),
    λ h.
        ⊎_elim (λ (a : i < k). or_inr (leb k i) _ (lt-ltb _ _ (h a))) (λ (a : k ≤ i). or_inl (leb k i) _ (le-leb k i a)) (lt_or_le i k),
  )

  pub plan_capacity : (i k : ℕ) → is_open M s (plan i) ≡ true → i < k → k < M.carriers → length (s.chan k i) < M.depth
  unfolding waits_for
  plan_capacity i k e l h = each_passed 13 1 _ _ (capacity_means i) M.carriers (then_both _ _ (open_ready (plan i) e)).1 k h l

  pub plan_open : (i : ℕ) → i < M.carriers → s.due i ≡ true →
      ((k : ℕ) → i < k → k < M.carriers → length (s.chan k i) < M.depth) → is_open M s (plan i) ≡ true
  unfolding is_there waits_for
  plan_open i l d r =
      ready_open (plan i) (lt-ltb i M.carriers l)
      (then_passed (demand_passes 8 0 d) ∙ all_passes 13 1 _ _ (capacity_means i) M.carriers (λ k h a. r k a h))

  pub deliver_above : (j i : ℕ) → is_open M s (deliver j i) ≡ true → j < i
  unfolding is_there
  deliver_above j i e = ltb-true j i (and_fst (ltb j i) (ltb i M.carriers) (open_there (deliver j i) e))

  pub deliver_within : (j i : ℕ) → is_open M s (deliver j i) ≡ true → i < M.carriers
  unfolding is_there
  deliver_within j i e = ltb-true i M.carriers (and_snd (ltb j i) (ltb i M.carriers) (open_there (deliver j i) e))

  pub deliver_full : (j i : ℕ) → is_open M s (deliver j i) ≡ true → is_empty (s.chan i j) ≡ false
  unfolding waits_for
  deliver_full j i e = not-true (is_empty (s.chan i j)) (demand_holds (not (is_empty (s.chan i j))) 12 (1 + i) (open_ready (deliver j i) e))

  pub deliver_open : (j i : ℕ) → j < i → i < M.carriers → is_empty (s.chan i j) ≡ false → is_open M s (deliver j i) ≡ true
  unfolding is_there waits_for demand
  deliver_open j i a l e = ready_open (deliver j i) (and_both (lt-ltb j i a) (lt-ltb i M.carriers l)) (rw e)
