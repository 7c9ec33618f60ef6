-- What an open step does and answers, and that it is counted (document 01, 'The machine').
use Rattle.std.specs.Prelude.{ℕ, Bool, true, false, ◌&&◌, not, List, [], ◌∷◌, ◌++◌, ltb, eqb}
use Rattle.route.specs.Route.{Answer, View, heard}
use Rattle.reference.specs.Ranges.{update, update_pair}
use Rattle.reference.specs.State.{Machine, State, views, tick}
use Rattle.reference.specs.Step.{Step, plan, deliver, same_answer}

-- Answer a of carrier i is news: i had not planned before, or its answer changed.
unfoldable pub is_news : State → ℕ → Answer → Bool
is_news s i x = not (s.planned i && same_answer (s.answer i) x)

-- The channels with message x put last on every channel from i, to the carriers k below it.
unfoldable pub send : (ℕ → ℕ → List Answer) → ℕ → Answer → ℕ → ℕ → List Answer
send chan i x k j = elim (eqb j i && ltb i k) [ true ↦ chan k j ++ (x ∷ []) | false ↦ chan k j ]

-- Carrier i plans answer x: it is no longer due, has planned, and sends the answer if it is news.
unfoldable pub plan_as : State → ℕ → Answer → State
plan_as s i x =
    record {
      planned = update s.planned i true;
      due = update s.due i false;
      answer = update s.answer i x;
      view = s.view;
      chan = elim (is_news s i x) [ true ↦ send s.chan i x | false ↦ s.chan ];
      taken = s.taken;
    }

-- The view v after the oldest message of a channel.
unfoldable pub oldest : View → List Answer → View
oldest v [] = v
oldest v (x ∷ rest) = heard x

-- A channel without its oldest message.
unfoldable pub newer : List Answer → List Answer
newer [] = []
newer (x ∷ rest) = rest

-- The oldest message from j leaves its channel and becomes the view that i has of j; i becomes due.
unfoldable pub deliver_to : State → ℕ → ℕ → State
deliver_to s j i =
    record {
      planned = s.planned;
      due = update s.due i true;
      answer = s.answer;
      view = update_pair s.view i j (oldest (s.view i j) (s.chan i j));
      chan = update_pair s.chan i j (newer (s.chan i j));
      taken = s.taken;
    }

-- What an open step does: a plan sets the best answer to the views.
unfoldable pub effect : Machine → State → Step → State
effect M s (plan i) = plan_as s i (M.respond i (views s i))
effect M s (deliver j i) = deliver_to s j i

-- The state with one more step counted.
unfoldable pub counted : State → State
counted s =
    record {
      planned = s.planned;
      due = s.due;
      answer = s.answer;
      view = s.view;
      chan = s.chan;
      taken = tick s.taken;
    }

-- The state after an open step: its effect, and the step counted.
unfoldable pub after_step : Machine → State → Step → State
after_step M s x = counted (effect M s x)

-- The answers of an open step: planned and kept, planned and sent, delivered.
pub data StepAnswer : Type 0 where
  kept : StepAnswer
  sent : StepAnswer
  delivered : StepAnswer

-- The answer of an open step: a plan that is the carrier's first or changes its answer is 'sent', any other plan is 'kept'.
unfoldable pub step_answer : Machine → State → Step → StepAnswer
step_answer M s (plan i) = elim (is_news s i (M.respond i (views s i))) [ true ↦ sent | false ↦ kept ]
step_answer M s (deliver j i) = delivered
