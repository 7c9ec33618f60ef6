-- What holds of none and of every best response holds of every answer, message and heard view of a reached state.
use Prim.Native.Nat.{ℕ, ◌<◌}
use mathlib.Core.List.{List, [], ◌∷◌, ◌++◌}
use mathlib.Core.Logic.{◌⊎◌, inl, inr, ⊎_elim}
use mathlib.Core.Path.{◌≡◌}
use Rattle.route.specs.Route.{Answer, none, View, unheard, heard}
use Rattle.laws.proofs.Tests.{eq_or_ne}
use Rattle.reference.specs.State.{Machine, State, fresh, views}
use Rattle.reference.specs.Step.{Step, plan, deliver}
use Rattle.reference.specs.Take.{plan_as, oldest, newer, deliver_to, effect, counted, after_step}
use Rattle.reference.specs.History.{Reachable, stay, next}
use Rattle.reference.specs.Bounds.{AllOf, ShownOf, Throughout}
use Rattle.reference.proofs.TakeLaws.{plan_view, plan_answer, deliver_answer, deliver_view}
use Rattle.reference.proofs.BoundLaws.{plan_chan_cases, deliver_chan_cases}

module _ (n : ℕ) (P : Answer → Type 0) where
  all_sent : (xs : List Answer) (x : Answer) → AllOf P xs → P x → AllOf P (xs ++ (x ∷ []))
  unfolding AllOf
  all_sent [] x h p = (p, tt)
  all_sent (y ∷ xs) x h p = (h.0, all_sent xs x h.1 p)

  all_newer : (xs : List Answer) → AllOf P xs → AllOf P (newer xs)
  unfolding AllOf newer
  all_newer [] h = tt
  all_newer (x ∷ xs) h = h.1

  shown_oldest : (v : View) (xs : List Answer) → ShownOf P v → AllOf P xs → ShownOf P (oldest v xs)
  unfolding AllOf ShownOf oldest
  shown_oldest v [] p h = p
  shown_oldest v (x ∷ xs) p h = h.0

  pub fresh_throughout : P none → Throughout n P fresh
  unfolding fresh AllOf ShownOf
  fresh_throughout p = record { answers = λ i b. p; messages = λ i j a b. tt; seen = λ i j a b. tt }

  -- The taken count does not matter.
  counted_throughout : (s : State) → Throughout n P s → Throughout n P (counted s)
  unfolding counted
  counted_throughout s h = record { answers = h.answers; messages = h.messages; seen = h.seen }

  module _ (s : State) (h : Throughout n P s) where
    plan_throughout : (i : ℕ) (x : Answer) → P x → Throughout n P (plan_as s i x)
    plan_throughout i x p =
        record { answers = answers; messages = λ k j l b. messages k j l b (plan_chan_cases s i x k j); seen = seen }
      where
        answers : (k : ℕ) → k < n → P ((plan_as s i x).answer k)
        answers k b =
            ⊎_elim (λ (q : k ≡ i). rw (q, (plan_answer s i x).there) p)
            (λ (m : k ≡ i → ⊥). rw ((plan_answer s i x).elsewhere k m) (h.answers k b))
            (eq_or_ne k i)

        messages : (k j : ℕ) → j < k → k < n → ((plan_as s i x).chan k j ≡ s.chan k j) ⊎
            ((j ≡ i) × (i < k) × ((plan_as s i x).chan k j ≡ s.chan k j ++ (x ∷ []))) → AllOf P ((plan_as s i x).chan k j)
        messages k j l b (inl q) = rw q (h.messages k j l b)
        messages k j l b (inr q) = rw q.2 (all_sent (s.chan k j) x (h.messages k j l b) p)

        seen : (k j : ℕ) → j < k → k < n → ShownOf P ((plan_as s i x).view k j)
        seen k j l b = rw (plan_view s i x) (h.seen k j l b)

    deliver_throughout : (j i : ℕ) → Throughout n P (deliver_to s j i)
    deliver_throughout j i =
        record {
          answers = λ k b. rw (deliver_answer s j i) (h.answers k b);
          messages = λ k j' a b. messages k j' a b (deliver_chan_cases s j i k j');
          seen = λ k j' a b. seen k j' a b (eq_or_ne k i) (eq_or_ne j' j);
        }
      where
        messages : (k j' : ℕ) → j' < k → k < n → ((deliver_to s j i).chan k j' ≡ s.chan k j') ⊎
            ((deliver_to s j i).chan k j' ≡ newer (s.chan k j')) → AllOf P ((deliver_to s j i).chan k j')
        messages k j' a b (inl q) = rw q (h.messages k j' a b)
        messages k j' a b (inr q) = rw q (all_newer (s.chan k j') (h.messages k j' a b))

        seen : (k j' : ℕ) → j' < k → k < n → (k ≡ i) ⊎ (k ≡ i → ⊥) → (j' ≡ j) ⊎ (j' ≡ j → ⊥) → ShownOf P ((deliver_to s j i).view k j')
        seen k j' a b (inr m) r = rw ((deliver_view s j i).elsewhere k m) (h.seen k j' a b)
        seen k j' a b (inl q) (inl m) =
            rw (q, m, (deliver_view s j i).there)
            (shown_oldest (s.view i j) (s.chan i j) (rw (q, m) at (h.seen k j' a b)) (rw (q, m) at (h.messages k j' a b)))
        seen k j' a b (inl q) (inr m) = rw (q, (deliver_view s j i).beside j' m) (rw q at (h.seen k j' a b))

  module _ (M : Machine) (best : (i : ℕ) (vs : List View) → P (M.respond i vs)) where
    pub step_throughout : (s : State) → Throughout n P s → (x : Step) → Throughout n P (after_step M s x)
    unfolding after_step effect
    step_throughout s h (plan i) = counted_throughout _ (plan_throughout s h i (M.respond i (views s i)) (best i (views s i)))
    step_throughout s h (deliver j i) = counted_throughout _ (deliver_throughout s h j i)

    pub reaches_throughout : {s z : State} {t : ℕ} → Throughout n P s → Reachable M s z t → Throughout n P z
    reaches_throughout h stay = h
    reaches_throughout {s = s} h (next x e p) = reaches_throughout (step_throughout s h x) p

-- What follows of every answer follows of every part.
module _ (n : ℕ) {P Q : Answer → Type 0} (more : (x : Answer) → P x → Q x) where
  all_more : (xs : List Answer) → AllOf P xs → AllOf Q xs
  unfolding AllOf
  all_more [] h = tt
  all_more (x ∷ xs) h = (more x h.0, all_more xs h.1)

  shown_more : (v : View) → ShownOf P v → ShownOf Q v
  unfolding ShownOf
  shown_more unheard h = tt
  shown_more (heard x) h = more x h

  pub throughout_more : (s : State) → Throughout n P s → Throughout n Q s
  throughout_more s h =
      record {
        answers = λ i l. more (s.answer i) (h.answers i l);
        messages = λ i j x b. all_more (s.chan i j) (h.messages i j x b);
        seen = λ i j x b. shown_more (s.view i j) (h.seen i j x b);
      }
