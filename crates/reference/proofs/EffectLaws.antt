-- The steps do what document 01 says.
use Prim.Native.Nat.{ℕ}
use mathlib.Core.Bool.{Bool, true, false}
use mathlib.Core.List.{List, [], ◌∷◌}
use mathlib.Core.Logic.{◌⊎◌, inl, inr, ⊎_elim}
use mathlib.Core.Path.{◌≡◌, refl, ◌∙◌}
use Rattle.route.specs.Route.{Answer, none, route, View, heard}
use Rattle.laws.proofs.Tests.{eq_or_ne, true_false_absurd}
use Rattle.reference.specs.State.{Machine, State, views, tick}
use Rattle.reference.specs.Step.{plan, deliver, is_empty, is_open, same_answer}
use Rattle.reference.specs.Take.{is_news, plan_as, oldest, newer, deliver_to, effect, counted, after_step}
use Rattle.reference.specs.Effects.{PlanLeads, DeliverLeads}
use Rattle.reference.proofs.OpenLaws.{deliver_full}
use Rattle.reference.proofs.TakeLaws.{cells_same, no_news, plan_keeps, sent_below_lem, chan_other, plan_view, plan_planned, plan_clears}
use Rattle.reference.proofs.TakeLaws.{plan_answer, deliver_due, deliver_planned, deliver_answer, deliver_chan, deliver_view}

answer_same : (x : Answer) → same_answer x x ≡ true
unfolding same_answer
answer_same none = refl
answer_same (route r) = cells_same r

module _ (s : State) (i : ℕ) (x : Answer) where
  -- The first plan and a changed answer are news; the same answer again is none.
  first_is_news : (s.planned i ≡ false) ⊎ (s.answer i ≡ x → ⊥) → is_news s i x ≡ true
  first_is_news h = go (is_news s i x) refl
    where
      go : (y : Bool) → is_news s i x ≡ y → is_news s i x ≡ true
      go true e = e
      go false e =
          ⊎_elim (λ (p : s.planned i ≡ false). true_false_absurd (no_news s i x e).0 p)
          (λ (p : s.answer i ≡ x → ⊥). absurd (p (no_news s i x e).1)) h

  again_no_news : s.planned i ≡ true → s.answer i ≡ x → is_news s i x ≡ false
  unfolding is_news
  again_no_news p e = rw (p, e, answer_same x) refl

module _ (M : Machine) (s : State) where
  pub plan_does : (i : ℕ) → PlanLeads M s (after_step M s (plan i)) i
  unfolding after_step effect counted tick plan_as deliver_to
  plan_does i =
      record {
        best = (plan_answer s i x).there;
        cleared = (plan_clears s i x).there;
        planned = (plan_planned s i x).there;
        sends = λ h k l. rw (plan_answer s i x).there (sent_below_lem s i x (first_is_news s i x (rw (plan_answer s i x).there at h)) k l);
        keeps = λ p e k l. rw (plan_keeps s i x (again_no_news s i x p (e ∙ (plan_answer s i x).there)));
        counted = refl;
        carriers =
            λ k n.
            record {
              planned = (plan_planned s i x).elsewhere k n;
              due = (plan_clears s i x).elsewhere k n;
              answer = (plan_answer s i x).elsewhere k n;
            };
        channels = λ k j n. chan_other s i x k j n;
        seen = λ k j. rw (plan_view s i x);
      }
    where
      x : Answer
      x = M.respond i (views s i)

  oldest_first : (v : View) (xs : List Answer) → is_empty xs ≡ false → (x : Answer) × (xs ≡ x ∷ newer xs) × (oldest v xs ≡ heard x)
  unfolding is_empty newer oldest
  oldest_first v [] e = true_false_absurd refl e
  oldest_first v (x ∷ xs) e = (x, refl, refl)

  pub deliver_does : (j i : ℕ) → is_open M s (deliver j i) ≡ true → DeliverLeads s (after_step M s (deliver j i)) j i
  unfolding after_step effect counted tick plan_as deliver_to
  deliver_does j i e =
      record {
        oldest = f.0;
        leaves = rw (deliver_chan s j i).there f.1;
        becomes = (deliver_view s j i).there ∙ f.2;
        due = (deliver_due s j i).there;
        counted = refl;
        carriers =
            λ k n.
            record {
              planned = rw (deliver_planned s j i);
              due = (deliver_due s j i).elsewhere k n;
              answer = rw (deliver_answer s j i);
            };
        receiver = (rw (deliver_planned s j i), rw (deliver_answer s j i));
        channels = λ k j' h. channels k j' h (eq_or_ne k i);
        seen = λ k j' h. seen k j' h (eq_or_ne k i);
      }
    where
      f : (x : Answer) × (s.chan i j ≡ x ∷ newer (s.chan i j)) × (oldest (s.view i j) (s.chan i j) ≡ heard x)
      f = oldest_first (s.view i j) (s.chan i j) (deliver_full M s j i e)

      channels : (k j' : ℕ) → (k ≡ i → ⊥) ⊎ (j' ≡ j → ⊥) → (k ≡ i) ⊎ (k ≡ i → ⊥) → (deliver_to s j i).chan k j' ≡ s.chan k j'
      channels k j' (inl n) q = rw ((deliver_chan s j i).elsewhere k n)
      channels k j' (inr n) (inl q) = rw q ((deliver_chan s j i).beside j' n)
      channels k j' (inr n) (inr q) = rw ((deliver_chan s j i).elsewhere k q)

      seen : (k j' : ℕ) → (k ≡ i → ⊥) ⊎ (j' ≡ j → ⊥) → (k ≡ i) ⊎ (k ≡ i → ⊥) → (deliver_to s j i).view k j' ≡ s.view k j'
      seen k j' (inl n) q = rw ((deliver_view s j i).elsewhere k n)
      seen k j' (inr n) (inl q) = rw q ((deliver_view s j i).beside j' n)
      seen k j' (inr n) (inr q) = rw ((deliver_view s j i).elsewhere k q)
