-- What is claimed of lists of calls, one field a claim, for any number of carriers, any best response, and any depth, at least 1 where
-- it matters.
use Rattle.std.specs.Prelude.{ℕ, ◌-◌, ◌≤◌, min, true, List, [], ◌∷◌, ◌++◌, ◌↔◌, ◌≡◌, take}
use Rattle.route.specs.Route.{Answer, none, View}
use Rattle.route.specs.Sequential.{sequential}
use Rattle.reference.specs.Ranges.{below}
use Rattle.laws.specs.Verdict.{passed, refused}
use Rattle.reference.specs.State.{Machine, State, fresh}
use Rattle.reference.specs.Step.{Step, is_open}
use Rattle.reference.specs.Run.{run}
use Rattle.reference.specs.History.{Reachable}
use Rattle.reference.specs.Table.{Asked, step, Call, single, run_of, steps_of, all_named, verdict}
use Rattle.reference.specs.Refused.{RefusedCall}
use Rattle.reference.specs.Calls.{replies, after}
use Rattle.reference.specs.Quiescent.{quiescent, replies_count, ceiling}
use Rattle.reference.specs.Bounds.{InRange, Throughout}

pub record CallClaims : Type 1 where
  -- A call is refused exactly under the conditions of the table, with its first place.
  pub refuses_exactly : (M : Machine) (s : State) (x : Call) (k p : ℕ) → (verdict M s x ≡ refused k p) ↔ RefusedCall M s x k p
  -- A single step that is not refused is open.
  pub single_open : (M : Machine) (s : State) (lent : ℕ) (x : Step) → verdict M s (single lent (step x)) ≡ passed → is_open M s x ≡ true
  -- A list of calls changes the state by open steps alone, as many as its answers tell of.
  pub calls_reach : (M : Machine) (s : State) (xs : List Call) → Reachable M s (after M s xs) (replies_count (replies M s xs))
  -- The taken count is the number of single steps taken plus the numbers that the runs returned, or 999,999 if that is more.
  pub count_told : (M : Machine) (xs : List Call) → (after M fresh xs).taken ≡ min 999999 (replies_count (replies M fresh xs))
  -- The step ceiling: from fresh, no list of calls takes more than 2^(n + 1) − n − 2 steps.
  pub ceiling_holds : (M : Machine) (xs : List Call) → replies_count (replies M fresh xs) ≤ ceiling M.carriers
  -- A point inside a run that is not refused is the end of the same run with its list cut there, and the rest of the list, with
  -- what is left of the budget, counts as a later call.
  pub cut_state : (M : Machine) (lent : ℕ) → M.needed ≤ lent → (s : State) (xs ys : List Asked) (b : ℕ) →
      all_named M (xs ++ ys) ≡ passed →
      after M s (run_of lent (xs ++ ys) b ∷ []) ≡ after M s (run_of lent xs b ∷ run_of lent ys (b - (run M s (steps_of xs) b).taken) ∷ [])
  pub cut_taken : (M : Machine) (lent : ℕ) → M.needed ≤ lent → (s : State) (xs ys : List Asked) (b : ℕ) →
      all_named M (xs ++ ys) ≡ passed →
      replies_count (replies M s (run_of lent (xs ++ ys) b ∷ [])) ≡
      replies_count (replies M s (run_of lent xs b ∷ run_of lent ys (b - (run M s (steps_of xs) b).taken) ∷ []))
  -- If the first k carriers are quiescent after a list of calls, their answers are the sequential planner's first k.
  pub quiescent_answers : (M : Machine) (xs : List Call) (k : ℕ) → k ≤ M.carriers → quiescent k (after M fresh xs) ≡ true →
      below k (after M fresh xs).answer ≡ take k (sequential M.respond M.carriers)
  -- After every longer list their answers are the same.
  pub quiescent_answers_stay : (M : Machine) (xs ys : List Call) (k : ℕ) → quiescent k (after M fresh xs) ≡ true →
      below k (after M fresh (xs ++ ys)).answer ≡ below k (after M fresh xs).answer
  -- After every list of calls each channel has at most depth messages, and the count is at most 999,999.
  pub calls_in_range : (M : Machine) (xs : List Call) → InRange M (after M fresh xs)
  -- What holds of none and of every best response holds of every answer, message and heard view then.
  pub calls_throughout : (M : Machine) (P : Answer → Type 0) → P none → ((i : ℕ) (vs : List View) → P (M.respond i vs)) →
      (xs : List Call) → Throughout M.carriers P (after M fresh xs)
