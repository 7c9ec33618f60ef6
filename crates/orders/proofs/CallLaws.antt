-- The report of a trial as a list of single calls on the reference machine: the same answers, the same state.
use Prim.Native.Nat.{ℕ, ◌≤◌}
use mathlib.Core.Bool.{true}
use mathlib.Core.List.{List, [], ◌∷◌}
use mathlib.Core.Path.{◌≡◌, refl, ◌∙◌, ap}
use borrow.Author.Tests.{le-leb}
use Rattle.laws.specs.Verdict.{passed, value, passes}
use Rattle.laws.proofs.Tests.{and_fst}
use Rattle.laws.proofs.VerdictLaws.{then_passed, demand_passes, gives_passed}
use Rattle.reference.specs.State.{Machine, State}
use Rattle.reference.specs.Step.{Step, is_open, is_there, waits_for}
use Rattle.reference.specs.Take.{after_step, step_answer}
use Rattle.reference.specs.History.{after_steps}
use Rattle.reference.specs.Table.{single, step, lent_enough, open_single, verdict}
use Rattle.reference.specs.Calls.{Reply, stepped, reply, state_after, after_call, replies, after}
use Rattle.reference.proofs.OpenLaws.{open_ready}
use Rattle.reference.proofs.ReachLaws.{after_passed}
use Rattle.orders.specs.Orders.{Order, remembered}
use Rattle.orders.specs.Trial.{Entry, steps_in}
use Rattle.orders.specs.Rules.{FollowsOrder}
use Rattle.orders.specs.Claims.{calls_of, replies_of}

module _ (M : Machine) (lent : ℕ) (l : M.needed ≤ lent) where
  -- An open step passes as a single call.
  pub single_passes : (s : State) (x : Step) → is_open M s x ≡ true → verdict M s (single lent (step x)) ≡ passed
  unfolding verdict lent_enough open_single is_open
  single_passes s x e =
      then_passed (demand_passes 9 0 (le-leb M.needed lent l))
      ∙ then_passed (demand_passes 7 0 (and_fst (is_there M x) (passes (waits_for M s x)) e)) ∙ open_ready M s x e

  pub single_reply : (s : State) (x : Step) → is_open M s x ≡ true → reply M s (single lent (step x)) ≡ value (stepped (step_answer M s x))
  unfolding reply
  single_reply s x e = gives_passed (single_passes s x e)

  pub single_after : (s : State) (x : Step) → is_open M s x ≡ true → after_call M s (single lent (step x)) ≡ after_step M s x
  unfolding state_after
  single_after s x e = after_passed M s (single lent (step x)) (single_passes s x e)

  module _ (o : Order) where
    pub calls_reply : (kept : ℕ) (s : State) (xs : List Entry) → FollowsOrder o M kept s xs → replies M s (calls_of lent xs) ≡ replies_of xs
    unfolding FollowsOrder replies calls_of replies_of
    calls_reply kept s [] h = refl
    calls_reply kept s (x ∷ xs) h =
        rw (single_reply s x.taken h.1.is_open, single_after s x.taken h.1.is_open, ← h.1.answer)
        (ap (λ (xs : List Reply). value (stepped x.answer) ∷ xs)
        (calls_reply (remembered o kept h.0) (after_step M s x.taken) xs h.2))

    pub calls_lead : (kept : ℕ) (s : State) (xs : List Entry) → FollowsOrder o M kept s xs
        → after M s (calls_of lent xs) ≡ after_steps M s (steps_in xs)
    unfolding FollowsOrder after calls_of after_steps steps_in
    calls_lead kept s [] h = refl
    calls_lead kept s (x ∷ xs) h =
        ap (λ (z : State). after M z (calls_of lent xs)) (single_after s x.taken h.1.is_open)
        ∙ calls_lead (remembered o kept h.0) (after_step M s x.taken) xs h.2
