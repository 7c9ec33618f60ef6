-- The simulation of a step: an open step on the memory of a state leaves the memory of the state after it, with the same answer.
use Prim.Native.Nat.{ℕ, ◌≤◌, ◌<◌}
use native.Mathlib.Omega.{arith}
use mathlib.Core.Bool.{true, false}
use mathlib.Core.List.{List, ◌++◌}
use mathlib.Core.Logic.{⊎_elim}
use mathlib.Core.Path.{◌≡◌, refl, ◌∙◌, ap}
use lib.ListN.{length}
use Rattle.route.specs.Route.{Answer, View}
use Rattle.laws.proofs.Tests.{true_or_false}
use Rattle.records.specs.Records.{record_of}
use Rattle.records.proofs.RecordLaws.{Whole}
use Rattle.reference.specs.State.{Machine, State, views}
use Rattle.reference.specs.Step.{Step, plan, deliver, is_open}
use Rattle.reference.specs.Take.{is_news, plan_as, deliver_to, effect, counted, after_step, step_answer}
use Rattle.reference.specs.Bounds.{InRange, Throughout}
use Rattle.reference.proofs.OpenLaws.{plan_within, plan_capacity, deliver_above, deliver_within, deliver_full}
use Rattle.encoding.specs.Encode.{encode}
use Rattle.encoding.specs.InnerSteps.{ticked, news_in, planned_in, best_in, effect_in, after_in, step_answer_in}
use Rattle.encoding.proofs.StateLaws.{with_taken}
use Rattle.encoding.proofs.CountLaws.{ticked_same}
use Rattle.encoding.proofs.DeliverLaws.{delivered_same}
use Rattle.encoding.proofs.PlanLaws.{views_same, news_same, planned_same}

-- What a machine needs for its states to lie in memory: channels of at most four places, and best answers with whole records.
pub record Storable (M : Machine) : Type 0 where
  pub shallow : M.depth ≤ 4
  pub whole : (i : ℕ) (vs : List View) → Whole (M.respond i vs)

module _ (M : Machine) (storable : Storable M) (s : State) (range : InRange M s) (whole : Throughout M.carriers Whole s)
    (rest : List ℕ) where
  -- The number of carriers, and the memory of the state.
  abbrev n : ℕ
  n = M.carriers

  abbrev m : List ℕ
  m = encode n s ++ rest

  -- The best answer of a carrier.
  best_same : (i : ℕ) → i < n → best_in M m i ≡ M.respond i (views s i)
  unfolding best_in
  best_same i l = ap (M.respond i) (views_same n s rest i l (λ j h. whole.seen i j h l))

  -- A channel from i to a carrier below has a place for a message where i has capacity.
  capacity_left : (i : ℕ) → is_open M s (plan i) ≡ true → (k : ℕ) → i < k → k < n → length (s.chan k i) < 4
  capacity_left i e k a b = omega (arith, plan_capacity M s i k e a b, storable.shallow)

  -- What an open step does.
  effect_same : (x : Step) → is_open M s x ≡ true → effect_in M m x ≡ encode n (effect M s x) ++ rest
  unfolding effect_in effect
  effect_same (plan i) e =
      let l : i < n = plan_within M s i e in
      let x = M.respond i (views s i) in
      ap (λ (y : Answer). planned_in n m i (record_of y)) (best_same i l)
      ∙ planned_same n s rest i x l (storable.whole i (views s i)) (whole.answers i l) (capacity_left i e)
  effect_same (deliver j i) e =
      let a : j < i = deliver_above M s j i e in
      let b : i < n = deliver_within M s j i e in
      let few : length (s.chan i j) ≤ 4 = omega (arith, range.channels i j a b, storable.shallow) in
      delivered_same n s rest i j a b (deliver_full M s j i e) few

  -- It leaves the count alone.
  effect_uncounted : (x : Step) → (effect M s x).taken ≡ s.taken
  unfolding effect plan_as deliver_to
  effect_uncounted (plan i) = refl
  effect_uncounted (deliver j i) = refl

  pub after_same : (x : Step) → is_open M s x ≡ true → after_in M m x ≡ encode n (after_step M s x) ++ rest
  unfolding after_in after_step counted with_taken
  after_same x e =
      ap ticked (effect_same x e) ∙ ticked_same n (effect M s x) rest (rw (effect_uncounted x) range.counted)

  said_plan : (i : ℕ) → i < n → step_answer_in M m (plan i) ≡ step_answer M s (plan i)
  unfolding step_answer_in step_answer
  said_plan i l =
      let x = M.respond i (views s i) in
      let news : news_in m i (record_of (best_in M m i)) ≡ is_news s i x =
      ap (λ (y : Answer). news_in m i (record_of y)) (best_same i l) ∙ news_same n s rest i x l (whole.answers i l)
      in
      ⊎_elim
      (λ (e : is_news s i x ≡ true). rw (news, e, step_answer))
      (λ (e : is_news s i x ≡ false). rw (news, e, step_answer))
      (true_or_false (is_news s i x))

  pub said_same : (x : Step) → is_open M s x ≡ true → step_answer_in M m x ≡ step_answer M s x
  unfolding step_answer_in step_answer
  said_same (plan i) e = said_plan i (plan_within M s i e)
  said_same (deliver j i) e = refl
