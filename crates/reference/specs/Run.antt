-- The run (document 01, 'The machine'): a list of steps is read from the front while steps are left and fewer are taken than the
-- budget; a step that is open is taken, any other is passed over.
use Rattle.std.specs.Prelude.{ℕ, zero, suc, true, false, List, [], ◌∷◌}
use Rattle.reference.specs.State.{Machine, State}
use Rattle.reference.specs.Step.{Step, is_open}
use Rattle.reference.specs.Take.{after_step}

-- What a run did with a step that it read.
pub data Event : Type 0 where
  took : Step → Event
  skipped : Step → Event

-- What a run comes to: the state after it, its history, the number taken, the steps that were not read.
pub record RunResult : Type 0 where
  pub state : State
  pub history : List Event
  pub taken : ℕ
  pub unread : List Step

-- Run y with one more step taken at its front.
unfoldable pub took_first : Step → RunResult → RunResult
took_first x y = record { state = y.state; history = took x ∷ y.history; taken = suc y.taken; unread = y.unread }

-- Run y with one more step passed over at its front.
unfoldable pub skipped_first : Step → RunResult → RunResult
skipped_first x y = record { state = y.state; history = skipped x ∷ y.history; taken = y.taken; unread = y.unread }

-- The run of a list with a budget; the number taken counts the budget down.
unfoldable pub run : Machine → State → List Step → ℕ → RunResult
run M s [] b = record { state = s; history = []; taken = 0; unread = [] }
run M s (x ∷ xs) zero = record { state = s; history = []; taken = 0; unread = x ∷ xs }
run M s (x ∷ xs) (suc b) =
    elim (is_open M s x) [ true ↦ took_first x (run M (after_step M s x) xs b) | false ↦ skipped_first x (run M s xs (suc b)) ]
