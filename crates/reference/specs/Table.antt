-- The calls and the table of refusals as the reference machine is given it (document 01, 'Refused'): 9, then 7, then what a single step
-- waits for. A lent state of the machine's own is never refused with 10.
use Rattle.std.specs.Prelude.{ℕ, Bool, false, List, [], ◌∷◌, leb, length, get_or}
use Rattle.laws.specs.Verdict.{Verdict, refused, ◌then◌, demand, demand_each}
use Rattle.reference.specs.State.{Machine, State}
use Rattle.reference.specs.Step.{Step, is_there, waits_for}

-- A step as it is asked for: a step, or what names no kind of step.
pub data Asked : Type 0 where
  step : Step → Asked
  no_step : Asked

-- What is asked for is a step that is there.
unfoldable pub is_named : Machine → Asked → Bool
is_named M (step x) = is_there M x
is_named M no_step = false

-- The steps that are asked for, in order.
unfoldable pub steps_of : List Asked → List Step
steps_of [] = []
steps_of (step x ∷ xs) = x ∷ steps_of xs
steps_of (no_step ∷ xs) = steps_of xs

-- A call: a single step, or a run of a list with a budget, each with the length of the state that is lent to it.
pub data Call : Type 0 where
  single : (lent : ℕ) → Asked → Call
  run_of : (lent : ℕ) → List Asked → (budget : ℕ) → Call

-- 9, 0 if lent memory is too short.
unfoldable pub lent_enough : Machine → ℕ → Verdict
lent_enough M lent = demand (leb M.needed lent) 9 0

-- 7 with the place of the first that is not named; a single step has place 0.
unfoldable pub all_named : Machine → List Asked → Verdict
all_named M xs = demand_each 7 0 (λ p. is_named M (get_or xs p no_step)) (length xs)

-- 7, 0 if a single step is not named; otherwise what it waits for.
unfoldable pub open_single : Machine → State → Asked → Verdict
open_single M s (step x) = demand (is_there M x) 7 0 then waits_for M s x
open_single M s no_step = refused 7 0

-- What the table says of a call on state s.
unfoldable pub verdict : Machine → State → Call → Verdict
verdict M s (single lent x) = lent_enough M lent then open_single M s x
verdict M s (run_of lent xs b) = lent_enough M lent then all_named M xs
