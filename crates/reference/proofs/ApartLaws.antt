-- Steps that stand apart (document 02, slip 5): each is still open after the other, with the same answer, and both orders lead to the same
-- state. That a step is open is used as the claims word it; what it does, part by part of the state.
use Prim.Native.Nat.{ℕ, ◌≤◌, ◌<◌}
use native.Mathlib.Omega.{arith}
use mathlib.Core.Bool.{Bool, true, false}
use mathlib.Core.List.{List, [], ◌∷◌, ◌++◌}
use mathlib.Core.Logic.{◌⊎◌, inl, inr}
use mathlib.Core.Path.{◌≡◌, refl, sym, ◌∙◌, ap, ap₂}
use lib.ListN.{length, length-append}
use borrow.Author.Tests.{eq-eqb}
use Rattle.route.specs.Route.{Answer}
use Rattle.laws.proofs.Tests.{true_false_absurd}
use Rattle.reference.specs.Ranges.{update, update_pair}
use Rattle.reference.specs.State.{Machine, State, views}
use Rattle.reference.specs.Step.{Step, plan, deliver, is_open}
use Rattle.reference.specs.Take.{is_news, plan_as, newer, deliver_to, effect, counted, after_step, step_answer}
use Rattle.reference.specs.StepClaims.{StepClaims}
use Rattle.reference.specs.Meeting.{meet, Apart}
use Rattle.reference.proofs.RangeLaws.{update_other, pair_other_row}
use Rattle.reference.proofs.TakeLaws.{chan_other, plan_clears, deliver_due}
use Rattle.reference.proofs.BoundLaws.{plan_chan_cases, deliver_chan_cases, newer_shorter}
use Rattle.reference.proofs.SwapLaws.{update_swap, value_swap, pair_else, pair_swap, sent_if, sent_swap, sent_take, oldest_kept}

-- Standing apart goes both ways.
meet_sym : (x y : Step) → meet x y ≡ meet y x
unfolding meet
meet_sym (plan i) (plan k) = refl
meet_sym (plan i) (deliver j k) = refl
meet_sym (deliver j k) (plan i) = refl
meet_sym (deliver j i) (deliver j' i') = refl

pub apart_sym : {M : Machine} {s : State} {x y : Step} → Apart M s x y → Apart M s y x
apart_sym {x = x} {y = y} h =
    record { one_open = h.other_open; other_open = h.one_open; different = λ e. h.different (sym e); unmet = meet_sym y x ∙ h.unmet }

-- Two states are the same if they are in every part.
state_same : (s z : State) → s.planned ≡ z.planned → s.due ≡ z.due → s.answer ≡ z.answer → s.view ≡ z.view → s.chan ≡ z.chan
    → s.taken ≡ z.taken → s ≡ z
state_same s z p d a v c t = λ i. record { planned = p i; due = d i; answer = a i; view = v i; chan = c i; taken = t i }

-- What a plan of i looks at beside its channels: whether i has planned, its answer, its views.
pub record SameReads (s z : State) (i : ℕ) : Type 0 where
  pub planned : z.planned i ≡ s.planned i
  pub answer : z.answer i ≡ s.answer i
  pub seen : z.view i ≡ s.view i

module _ (M : Machine) (s z : State) (i : ℕ) (h : SameReads s z i) where
  -- Then its new answer is the same, and news as much.
  response_same : M.respond i (views z i) ≡ M.respond i (views s i)
  unfolding views
  response_same = rw h.seen

  news_same : (x : Answer) → is_news z i x ≡ is_news s i x
  unfolding is_news
  news_same x = rw (h.planned, h.answer)

  told_same : step_answer M z (plan i) ≡ step_answer M s (plan i)
  unfolding step_answer
  told_same = rw (response_same, news_same (M.respond i (views s i)), step_answer)

-- What a plan of i looks at is left alone by another plan, and by a delivery to another carrier.
reads_plan : (s : State) (i k : ℕ) (x : Answer) → (i ≡ k → ⊥) → SameReads s (plan_as s k x) i
unfolding plan_as
reads_plan s i k x n =
    record { planned = update_other s.planned k true i n; answer = update_other s.answer k x i n; seen = refl }

reads_deliver : (s : State) (i j k : ℕ) → (i ≡ k → ⊥) → SameReads s (deliver_to s j k) i
unfolding deliver_to
reads_deliver s i j k n = record { planned = refl; answer = refl; seen = pair_other_row s.view k j _ i n }

reads_counted : {s z : State} {i : ℕ} → SameReads s z i → SameReads s (counted z) i
unfolding counted
reads_counted h = record { planned = h.planned; answer = h.answer; seen = h.seen }

-- Two steps that stand apart, by their kinds.
module _ (M : Machine) (s : State) where
  plans_differ : {i k : ℕ} → Apart M s (plan i) (plan k) → i ≡ k → ⊥
  plans_differ h e = h.different (ap plan e)

  receiver_other : {i j k : ℕ} → Apart M s (plan i) (deliver j k) → i ≡ k → ⊥
  unfolding meet
  receiver_other {i = i} {k = k} h e = true_false_absurd (eq-eqb i k e) h.unmet

  pairs_differ : {j i j' k : ℕ} → Apart M s (deliver j i) (deliver j' k) → (i ≡ k) × (j ≡ j') → ⊥
  pairs_differ h e = h.different (ap₂ deliver e.1 e.0)

  -- What y reads is the same after x, where y is a plan.
  reads_apart : (x : Step) (i : ℕ) → Apart M s x (plan i) → SameReads s (after_step M s x) i
  unfolding after_step effect
  reads_apart (plan k) i h = reads_counted (reads_plan s i k _ (λ e. plans_differ h (sym e)))
  reads_apart (deliver j k) i h = reads_counted (reads_deliver s i j k (receiver_other (apart_sym h)))

  pub answer_kept : (x y : Step) → Apart M s x y → step_answer M (after_step M s x) y ≡ step_answer M s y
  unfolding step_answer
  answer_kept x (plan i) h = told_same M s (after_step M s x) i (reads_apart x i h)
  answer_kept x (deliver j i) h = refl

-- A plan of answer x, which is news or not.
abbrev plan_with : Bool → State → ℕ → Answer → State
plan_with news s i x =
    record {
      planned = update s.planned i true;
      due = update s.due i false;
      answer = update s.answer i x;
      view = s.view;
      chan = sent_if news s.chan i x;
      taken = s.taken;
    }

module _ (M : Machine) (s : State) where
  abbrev response : ℕ → Answer
  response i = M.respond i (views s i)

  -- A plan of i in a state in which it reads what it reads in s.
  plan_in : (z : State) (i : ℕ) → SameReads s z i → after_step M z (plan i) ≡ counted (plan_with (is_news s i (response i)) z i (response i))
  unfolding after_step effect plan_as
  plan_in z i h =
      ap (λ (x : Answer). counted (plan_with (is_news z i x) z i x)) (response_same M s z i h)
      ∙ ap (λ (news : Bool). counted (plan_with news z i (response i))) (news_same M s z i h (response i))

  plan_plan : (i k : ℕ) → Apart M s (plan i) (plan k) →
      after_step M (after_step M s (plan i)) (plan k) ≡ after_step M (after_step M s (plan k)) (plan i)
  unfolding after_step effect counted plan_as
  plan_plan i k h =
      let n = plans_differ M s h in
      plan_in (after_step M s (plan i)) k (reads_apart M s (plan i) k h)
      ∙ state_same _ _ (update_swap s.planned i k true true n) (update_swap s.due i k false false n)
      (update_swap s.answer i k (response i) (response k) n) refl
      (sent_swap s.chan i k (response i) (response k) (is_news s i (response i)) (is_news s k (response k)) n) refl
      ∙ sym (plan_in (after_step M s (plan k)) i (reads_apart M s (plan k) i (apart_sym h)))

  plan_deliver : (i j k : ℕ) → Apart M s (plan i) (deliver j k) → (s.chan k j ≡ [] → ⊥) →
      after_step M (after_step M s (plan i)) (deliver j k) ≡ after_step M (after_step M s (deliver j k)) (plan i)
  unfolding after_step effect counted plan_as deliver_to
  plan_deliver i j k h full =
      let news = is_news s i (response i) in
      state_same _ _ refl (update_swap s.due i k false true (receiver_other M s h)) refl
      (ap (update_pair s.view k j) (oldest_kept news (s.view k j) s.chan i (response i) k j full))
      (sent_take news s.chan i (response i) k j full) refl
      ∙ sym (plan_in (after_step M s (deliver j k)) i (reads_apart M s (deliver j k) i (apart_sym h)))

  deliver_deliver : (j i j' k : ℕ) → Apart M s (deliver j i) (deliver j' k) →
      after_step M (after_step M s (deliver j i)) (deliver j' k) ≡ after_step M (after_step M s (deliver j' k)) (deliver j i)
  unfolding after_step effect counted deliver_to
  deliver_deliver j i j' k h =
      let n = pairs_differ M s h in
      let m = pairs_differ M s (apart_sym h) in
      state_same _ _ refl (value_swap s.due i k true) refl
      (rw (
        pair_else s.view i j _ k j' n,
        pair_else s.chan i j _ k j' n,
        pair_else s.view k j' _ i j m,
        pair_else s.chan k j' _ i j m,
      )
      (pair_swap s.view i j k j' _ _ n))
      (rw (pair_else s.chan i j _ k j' n, pair_else s.chan k j' _ i j m) (pair_swap s.chan i j k j' _ _ n)) refl

-- A delivery leaves the other channels alone.
delivered_else : (s : State) (j i j' k : ℕ) → ((i ≡ k) × (j ≡ j') → ⊥) → (deliver_to s j i).chan k j' ≡ s.chan k j'
unfolding deliver_to
delivered_else s j i j' k n = pair_else s.chan i j _ k j' n

appended_some : (xs : List Answer) (x : Answer) → xs ++ (x ∷ []) ≡ [] → ⊥
appended_some xs x e = omega (arith, length-append xs (x ∷ []), ap length e)

-- Each is still open after the other.
module _ (claims : StepClaims) (M : Machine) (s : State) where
  -- Some message is there before a delivery that is open.
  deliver_full : {x : Step} (j k : ℕ) → Apart M s x (deliver j k) → s.chan k j ≡ [] → ⊥
  deliver_full j k h = ((claims.deliver_open M s j k).0 h.other_open).2

  plan_stays : (x : Step) (i : ℕ) → Apart M s x (plan i) → (after_step M s x).due i ≡ s.due i →
      ((k : ℕ) → length ((after_step M s x).chan k i) ≤ length (s.chan k i)) → is_open M (after_step M s x) (plan i) ≡ true
  plan_stays x i h due capacity =
      let was = (claims.plan_open M s i).0 h.other_open in
      (claims.plan_open M (after_step M s x) i).1 (was.0, due ∙ was.1, λ k l b. omega (arith, capacity k, was.2 k l b))

  deliver_stays : (x : Step) (j k : ℕ) → Apart M s x (deliver j k) → ((after_step M s x).chan k j ≡ [] → ⊥) →
      is_open M (after_step M s x) (deliver j k) ≡ true
  deliver_stays x j k h full =
      let was = (claims.deliver_open M s j k).0 h.other_open in
      (claims.deliver_open M (after_step M s x) j k).1 (was.0, was.1, full)

  pub open_kept : (x y : Step) → Apart M s x y → is_open M (after_step M s x) y ≡ true
  unfolding after_step effect counted
  open_kept (plan k) (plan i) h =
      let n : i ≡ k → ⊥ = λ e. plans_differ M s h (sym e) in
      plan_stays (plan k) i h ((plan_clears s k (response M s k)).elsewhere i n)
      (λ x. omega (arith, ap length (chan_other s k (response M s k) x i n)))
  open_kept (deliver j k) (plan i) h =
      plan_stays (deliver j k) i h ((deliver_due s j k).elsewhere i (receiver_other M s (apart_sym h)))
      (λ x. go x (deliver_chan_cases s j k x i))
    where
      go : (x : ℕ) → ((deliver_to s j k).chan x i ≡ s.chan x i) ⊎ ((deliver_to s j k).chan x i ≡ newer (s.chan x i)) →
          length ((deliver_to s j k).chan x i) ≤ length (s.chan x i)
      go x (inl e) = omega (arith, ap length e)
      go x (inr e) = omega (arith, ap length e, newer_shorter (s.chan x i))
  open_kept (plan i) (deliver j k) h = deliver_stays (plan i) j k h (go (plan_chan_cases s i (response M s i) k j))
    where
      go : ((plan_as s i (response M s i)).chan k j ≡ s.chan k j) ⊎
          ((j ≡ i) × (i < k) × ((plan_as s i (response M s i)).chan k j ≡ s.chan k j ++ (response M s i ∷ []))) →
          (plan_as s i (response M s i)).chan k j ≡ [] → ⊥
      go (inl e) q = deliver_full j k h (sym e ∙ q)
      go (inr e) q = appended_some (s.chan k j) (response M s i) (sym e.2 ∙ q)
  open_kept (deliver j i) (deliver j' i') h =
      deliver_stays (deliver j i) j' i' h (λ e. deliver_full j' i' h (sym (delivered_else s j i j' i' (pairs_differ M s h)) ∙ e))

  pub state_agrees : (x y : Step) → Apart M s x y → after_step M (after_step M s x) y ≡ after_step M (after_step M s y) x
  state_agrees (plan i) (plan k) h = plan_plan M s i k h
  state_agrees (plan i) (deliver j k) h = plan_deliver M s i j k h (deliver_full j k h)
  state_agrees (deliver j k) (plan i) h = sym (plan_deliver M s i j k (apart_sym h) (deliver_full j k (apart_sym h)))
  state_agrees (deliver j i) (deliver j' i') h = deliver_deliver M s j i j' i' h
