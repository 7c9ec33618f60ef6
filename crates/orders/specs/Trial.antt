-- The trial (document 02, slip 1): steps are taken in an order until none is open, and each is reported with its answer.
use Rattle.std.specs.Prelude.{ℕ, zero, suc, true, false, List, [], ◌∷◌, map}
use Rattle.reference.specs.State.{Machine, State, fresh}
use Rattle.reference.specs.Step.{Step}
use Rattle.reference.specs.Take.{after_step, StepAnswer, step_answer}
use Rattle.reference.specs.Ranking.{is_silent}
use Rattle.reference.specs.Quiescent.{ceiling}
use Rattle.orders.specs.Orders.{Order, step_at, chosen, start_memory, remembered}

-- A line of the report: the step taken and its answer.
pub record Entry : Type 0 where
  pub taken : Step
  pub answer : StepAnswer

-- What a trial comes to: its report, and the state after it.
pub record TrialResult : Type 0 where
  pub report : List Entry
  pub state : State

-- The step that an order takes.
unfoldable pub next_step : Order → Machine → State → ℕ → Step
next_step o M s kept = step_at M.carriers (chosen o M s kept)

-- The line that reports a step.
unfoldable pub entry_of : Machine → State → Step → Entry
entry_of M s x = record { taken = x; answer = step_answer M s x }

-- A trial with one more line in front.
unfoldable pub reported : Entry → TrialResult → TrialResult
reported x y = record { report = x ∷ y.report; state = y.state }

-- At most b steps in an order that remembers the number kept, from state s, until none is open.
unfoldable pub try_from : Order → Machine → ℕ → State → ℕ → TrialResult
try_from o M kept s zero = record { report = []; state = s }
try_from o M kept s (suc b) =
    elim
    (is_silent M s) [
      | true ↦ record { report = []; state = s }
      | false ↦ reported (entry_of M s (next_step o M s kept))
          (try_from o M (remembered o kept (chosen o M s kept)) (after_step M s (next_step o M s kept)) b)
    ]

-- The trial from fresh, with as many steps as the ceiling has.
unfoldable pub trial : Order → Machine → ℕ → TrialResult
trial o M seed = try_from o M (start_memory o seed) fresh (ceiling M.carriers)

-- The steps of a report, in order.
unfoldable pub steps_in : List Entry → List Step
steps_in xs = map (λ (x : Entry). x.taken) xs
