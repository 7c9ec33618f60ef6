-- The invariant of reached states. A carrier that is not due has planned, and its answer is best against its views. The last
-- message on a channel, or the view where the channel is empty, is what the sender has said: its answer if it has planned.
use Prim.Native.Nat.{ℕ, ◌<◌}
use mathlib.Core.Bool.{Bool, true, false}
use mathlib.Core.List.{List, [], ◌∷◌, ◌++◌}
use mathlib.Core.Logic.{◌⊎◌, inl, inr, ⊎_elim}
use mathlib.Core.Path.{◌≡◌, refl, sym, ◌∙◌}
use Rattle.route.specs.Route.{Answer, View, unheard, heard}
use Rattle.laws.proofs.Tests.{eq_or_ne, true_false_absurd}
use Rattle.reference.specs.State.{Machine, State, fresh, views}
use Rattle.reference.specs.Step.{Step, plan, deliver}
use Rattle.reference.specs.Take.{is_news, plan_as, oldest, newer, deliver_to, effect, counted, after_step}
use Rattle.reference.specs.History.{Reachable, stay, next}
use Rattle.reference.proofs.TakeLaws.{no_news, plan_keeps, sent_below_lem, chan_other, plan_view, plan_planned, plan_clears, plan_answer}
use Rattle.reference.proofs.TakeLaws.{deliver_due, deliver_planned, deliver_answer, deliver_chan, deliver_view}

-- What the receiver will have heard once every message is delivered.
pub latest : View → List Answer → View
latest v [] = v
latest v (x ∷ xs) = latest (heard x) xs

latest_sent : (v : View) (xs : List Answer) (x : Answer) → latest v (xs ++ (x ∷ [])) ≡ heard x
unfolding latest
latest_sent v [] x = refl
latest_sent v (y ∷ xs) x = latest_sent (heard y) xs x

latest_delivered : (v : View) (xs : List Answer) → latest (oldest v xs) (newer xs) ≡ latest v xs
unfolding latest oldest newer
latest_delivered v [] = refl
latest_delivered v (x ∷ xs) = refl

-- What a carrier has said: its answer if it has planned, else nothing.
pub said_as : Bool → Answer → View
said_as true x = heard x
said_as false x = unheard

pub said : State → ℕ → View
said s j = said_as (s.planned j) (s.answer j)

pub record Coherent (M : Machine) (s : State) : Type 0 where
  pub has_planned : (i : ℕ) → s.due i ≡ false → s.planned i ≡ true
  pub is_best : (i : ℕ) → s.due i ≡ false → s.answer i ≡ M.respond i (views s i)
  pub is_said : (i j : ℕ) → j < i → latest (s.view i j) (s.chan i j) ≡ said s j

-- Where the channel is empty and the sender has planned, the view is the sender's answer.
pub view_heard : (M : Machine) (s : State) → Coherent M s → (i j : ℕ) → j < i → s.chan i j ≡ [] → s.due j ≡ false →
    s.view i j ≡ heard (s.answer j)
unfolding latest said said_as
view_heard M s h i j l e d = rw (e, h.has_planned j d) at (h.is_said i j l)

pub fresh_coherent : (M : Machine) → Coherent M fresh
unfolding fresh latest said said_as
fresh_coherent M =
    record { has_planned = λ i e. true_false_absurd refl e; is_best = λ i e. true_false_absurd refl e; is_said = λ i j l. refl }

-- The taken count does not matter.
counted_coherent : (M : Machine) (s : State) → Coherent M s → Coherent M (counted s)
unfolding counted views said
counted_coherent M s h = record { has_planned = h.has_planned; is_best = h.is_best; is_said = h.is_said }

module _ (M : Machine) (s : State) (h : Coherent M s) where
  module _ (i : ℕ) (x : Answer) where
    said_other : (j : ℕ) → (j ≡ i → ⊥) → said (plan_as s i x) j ≡ said s j
    unfolding said
    said_other j n = rw ((plan_planned s i x).elsewhere j n, (plan_answer s i x).elsewhere j n)

    said_plan : said (plan_as s i x) i ≡ heard x
    unfolding said said_as
    said_plan = rw ((plan_planned s i x).there, (plan_answer s i x).there)

    -- What is on the way from i after its plan: the news, or what it was, if that is what i answered before.
    plan_said : (k : ℕ) → i < k → latest (s.view k i) ((plan_as s i x).chan k i) ≡ heard x
    unfolding said said_as
    plan_said k l = go (is_news s i x) refl
      where
        go : (y : Bool) → is_news s i x ≡ y → latest (s.view k i) ((plan_as s i x).chan k i) ≡ heard x
        go true e = rw (sent_below_lem s i x e k l) (latest_sent (s.view k i) (s.chan k i) x)
        go false e = rw (plan_keeps s i x e) (rw ((no_news s i x e).0, (no_news s i x e).1) at (h.is_said k i l))

  plan_coherent : (i : ℕ) → Coherent M (plan_as s i (M.respond i (views s i)))
  unfolding views
  plan_coherent i = record { has_planned = has_planned; is_best = is_best; is_said = is_said }
    where
      x : Answer
      x = M.respond i (views s i)

      z : State
      z = plan_as s i x

      has_planned : (k : ℕ) → z.due k ≡ false → z.planned k ≡ true
      has_planned k e =
          ⊎_elim (λ (q : k ≡ i). rw q (plan_planned s i x).there)
          (λ (n : k ≡ i → ⊥). (plan_planned s i x).elsewhere k n ∙ h.has_planned k (sym ((plan_clears s i x).elsewhere k n) ∙ e))
          (eq_or_ne k i)

      is_best : (k : ℕ) → z.due k ≡ false → z.answer k ≡ M.respond k (views z k)
      is_best k e =
          ⊎_elim (λ (q : k ≡ i). rw (q, plan_view s i x) (plan_answer s i x).there)
          (λ (n : k ≡ i → ⊥).
          rw (plan_view s i x) ((plan_answer s i x).elsewhere k n ∙ h.is_best k (sym ((plan_clears s i x).elsewhere k n) ∙ e)))
          (eq_or_ne k i)

      is_said : (k j : ℕ) → j < k → latest (z.view k j) (z.chan k j) ≡ said z j
      is_said k j l =
          ⊎_elim (λ (q : j ≡ i). rw (q, said_plan i x, plan_view s i x) (plan_said i x k (rw q at l)))
          (λ (n : j ≡ i → ⊥). rw (said_other i x j n, plan_view s i x, chan_other s i x k j n) (h.is_said k j l)) (eq_or_ne j i)

  deliver_coherent : (j i : ℕ) → Coherent M (deliver_to s j i)
  unfolding views said
  deliver_coherent j i = record { has_planned = has_planned; is_best = is_best; is_said = is_said }
    where
      z : State
      z = deliver_to s j i

      was : (k : ℕ) → z.due k ≡ false → (k ≡ i → ⊥) × (s.due k ≡ false)
      was k e =
          ⊎_elim (λ (q : k ≡ i). true_false_absurd (deliver_due s j i).there (rw q at e))
          (λ (n : k ≡ i → ⊥). (n, sym ((deliver_due s j i).elsewhere k n) ∙ e)) (eq_or_ne k i)

      has_planned : (k : ℕ) → z.due k ≡ false → z.planned k ≡ true
      has_planned k e = rw (deliver_planned s j i) (h.has_planned k (was k e).1)

      is_best : (k : ℕ) → z.due k ≡ false → z.answer k ≡ M.respond k (views z k)
      is_best k e = rw (deliver_answer s j i, (deliver_view s j i).elsewhere k (was k e).0) (h.is_best k (was k e).1)

      to_i : (k : ℕ) → k < i → (k ≡ j) ⊎ (k ≡ j → ⊥) → latest (z.view i k) (z.chan i k) ≡ said s k
      to_i k l (inl q) =
          rw (q, (deliver_view s j i).there, (deliver_chan s j i).there, latest_delivered (s.view i j) (s.chan i j))
          (h.is_said i j (rw q at l))
      to_i k l (inr n) = rw ((deliver_view s j i).beside k n, (deliver_chan s j i).beside k n) (h.is_said i k l)

      is_said : (k j' : ℕ) → j' < k → latest (z.view k j') (z.chan k j') ≡ said z j'
      is_said k j' l =
          rw (deliver_planned s j i, deliver_answer s j i)
          (⊎_elim (λ (q : k ≡ i). rw q (to_i j' (rw q at l) (eq_or_ne j' j)))
          (λ (n : k ≡ i → ⊥). rw ((deliver_view s j i).elsewhere k n, (deliver_chan s j i).elsewhere k n) (h.is_said k j' l)) (eq_or_ne k i))

  step_coherent : (x : Step) → Coherent M (after_step M s x)
  unfolding after_step effect
  step_coherent (plan i) = counted_coherent M (plan_as s i (M.respond i (views s i))) (plan_coherent i)
  step_coherent (deliver j i) = counted_coherent M (deliver_to s j i) (deliver_coherent j i)

pub reaches_coherent : (M : Machine) {s z : State} {t : ℕ} → Coherent M s → Reachable M s z t → Coherent M z
reaches_coherent M h stay = h
reaches_coherent M {s = s} h (next x e p) = reaches_coherent M (step_coherent M s h x) p
