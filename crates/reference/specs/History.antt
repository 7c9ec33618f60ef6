-- What a history says (document 01, 'The machine'): each step was taken where it was open, and passed over where it was not.
use Rattle.std.specs.Prelude.{ℕ, suc, ◌+◌, ◌≤◌, true, false, List, [], ◌∷◌, ◌++◌, ◌⊎◌, ◌≡◌, length}
use Rattle.reference.specs.State.{Machine, State}
use Rattle.reference.specs.Step.{Step, is_open}
use Rattle.reference.specs.Take.{after_step}
use Rattle.reference.specs.Run.{Event, took, skipped, RunResult}

-- From state s, every taken step was open when it was taken, and no step was open when it was passed over.
unfoldable pub Faithful : Machine → State → List Event → Type 0
Faithful M s [] = Unit {0}
Faithful M s (took x ∷ xs) = (is_open M s x ≡ true) × Faithful M (after_step M s x) xs
Faithful M s (skipped x ∷ xs) = (is_open M s x ≡ false) × Faithful M s xs

-- The steps read, in order.
unfoldable pub steps_read : List Event → List Step
steps_read [] = []
steps_read (took x ∷ xs) = x ∷ steps_read xs
steps_read (skipped x ∷ xs) = x ∷ steps_read xs

-- The steps taken, in order.
unfoldable pub steps_taken : List Event → List Step
steps_taken [] = []
steps_taken (took x ∷ xs) = x ∷ steps_taken xs
steps_taken (skipped x ∷ xs) = steps_taken xs

-- The state after the steps of a list, each taken.
unfoldable pub after_steps : Machine → State → List Step → State
after_steps M s [] = s
after_steps M s (x ∷ xs) = after_steps M (after_step M s x) xs

-- State z is reached from state s by t steps, each open when it was taken.
pub data Reachable (M : Machine) : State → State → ℕ → Type 0 where
  stay : {s : State} → Reachable M s s 0
  next : {s z : State} {t : ℕ} (x : Step) → is_open M s x ≡ true → Reachable M (after_step M s x) z t → Reachable M s z (suc t)

-- What the history of a run x of the steps xs with budget b says: it is faithful; it reads the list from the front; the state is
-- the one after its taken steps; the number taken is how many they are, at most the budget; it stops at the list's end or with
-- the budget used up.
pub record FaithfulRun (M : Machine) (s : State) (xs : List Step) (b : ℕ) (x : RunResult) : Type 0 where
  pub faithful : Faithful M s x.history
  pub reads : steps_read x.history ++ x.unread ≡ xs
  pub leads : x.state ≡ after_steps M s (steps_taken x.history)
  pub counts : x.taken ≡ length (steps_taken x.history)
  pub within : x.taken ≤ b
  pub stops : (x.unread ≡ []) ⊎ (x.taken ≡ b)

-- Run x is run y and then run z.
pub record RunsJoined (x y z : RunResult) : Type 0 where
  pub state : x.state ≡ z.state
  pub history : x.history ≡ y.history ++ z.history
  pub taken : x.taken ≡ y.taken + z.taken
  pub unread : x.unread ≡ y.unread ++ z.unread
