-- What is claimed of steps that stand apart (document 02, slip 5), one field a claim, for any number of carriers, any depth, any best
-- response and any state, one with a count of 999,999 included.
use Rattle.std.specs.Prelude.{ℕ, ◌+◌, ◌≤◌, true, List, ◌∷◌, ◌++◌, map, ◌≡◌}
use Rattle.reference.specs.State.{Machine, State}
use Rattle.reference.specs.Step.{Step, is_open}
use Rattle.reference.specs.Take.{after_step, step_answer}
use Rattle.reference.specs.Run.{took, run}
use Rattle.reference.specs.History.{Faithful, after_steps}
use Rattle.reference.specs.Meeting.{Apart, Exchanged, SameRun}

pub record MeetingClaims : Type 0 where
  -- Each of the two is still open after the other.
  pub still_open : (M : Machine) (s : State) (x y : Step) → Apart M s x y →
      (is_open M (after_step M s x) y ≡ true) × (is_open M (after_step M s y) x ≡ true)
  -- Both orders lead to the same state.
  pub same_state : (M : Machine) (s : State) (x y : Step) → Apart M s x y →
      after_step M (after_step M s x) y ≡ after_step M (after_step M s y) x
  -- Each has the same answer in either order.
  pub same_answers : (M : Machine) (s : State) (x y : Step) → Apart M s x y →
      (step_answer M (after_step M s x) y ≡ step_answer M s y) × (step_answer M (after_step M s y) x ≡ step_answer M s x)
  -- Neighbours inside a run that stand apart where the run comes to them, with budget left for both: exchanged, the run leads to the same
  -- state, takes as many, ends alike and leaves the same unread.
  pub run_neighbours : (M : Machine) (s : State) (xs : List Step) (x y : Step) (ys : List Step) (b : ℕ) →
      (run M s xs b).taken + 2 ≤ b → Apart M (run M s xs b).state x y →
      SameRun M b (run M s (xs ++ (x ∷ (y ∷ ys))) b) (run M s (xs ++ (y ∷ (x ∷ ys))) b)
      × ((run M s (xs ++ (x ∷ (y ∷ ys))) b).unread ≡ (run M s (xs ++ (y ∷ (x ∷ ys))) b).unread)
  -- With no budget left for either, neither is read. (With budget left for one, the run takes the first alone, and the two orders differ.)
  pub run_unread : (M : Machine) (s : State) (xs : List Step) (x y : Step) (ys : List Step) (b : ℕ) → (run M s xs b).taken ≡ b →
      SameRun M b (run M s (xs ++ (x ∷ (y ∷ ys))) b) (run M s (xs ++ (y ∷ (x ∷ ys))) b)
  -- Histories that differ by exchanging such neighbours lead to the same state, and where all steps of one are open when they are taken,
  -- so are those of the other.
  pub exchanged_state : (M : Machine) (s : State) (xs ys : List Step) → Exchanged M s xs ys → after_steps M s xs ≡ after_steps M s ys
  pub exchanged_open : (M : Machine) (s : State) (xs ys : List Step) → Exchanged M s xs ys → Faithful M s (map took xs) →
      Faithful M s (map took ys)
