-- What is claimed of a trial, for any number of carriers, any best response, any order and any seed; `proofs/Theorems.antt` has the proofs.
use Rattle.std.specs.Prelude.{ℕ, ◌+◌, ◌*◌, ◌/◌, ◌≤◌, ◌<◌, true, List, ◌++◌, map, ◌↔◌, ◌≡◌, length, get_or}
use Rattle.laws.specs.Verdict.{value}
use Rattle.route.specs.Sequential.{sequential}
use Rattle.reference.specs.Ranges.{below}
use Rattle.reference.specs.State.{Machine, State, fresh}
use Rattle.reference.specs.Step.{Step, is_there}
use Rattle.reference.specs.Ranking.{is_silent}
use Rattle.reference.specs.History.{after_steps}
use Rattle.reference.specs.Table.{Call, single, step}
use Rattle.reference.specs.Calls.{Reply, stepped, replies, after}
use Rattle.reference.specs.Quiescent.{ceiling}
use Rattle.orders.specs.Generator.{next_number, drawn_by}
use Rattle.orders.specs.Orders.{Order, round, places, step_at, open_at, open_places, start_memory}
use Rattle.orders.specs.Trial.{Entry, trial, steps_in}
use Rattle.orders.specs.Rules.{FollowsOrder, PassedOver}

-- The calls that take the steps of a report one by one, and the answers that a report tells.
unfoldable pub calls_of : ℕ → List Entry → List Call
calls_of lent xs = map (λ (x : Entry). single lent (step x.taken)) xs

unfoldable pub replies_of : List Entry → List Reply
replies_of xs = map (λ (x : Entry). value (stepped x.answer)) xs

pub record Claims : Type 0 where
  -- The ranking of n carriers has n (n + 1) / 2 steps, those that are there and no others.
  pub ranking_length : (n : ℕ) → places n ≡ n * (n + 1) / 2
  pub ranking_lists : (M : Machine) (x : Step) →
      (is_there M x ≡ true) ↔ ((p : ℕ) × (p < places M.carriers) × (step_at M.carriers p ≡ x))
  -- The list of open places has every place whose step is open, and no other, in rising order.
  pub open_listed : (M : Machine) (s : State) (p : ℕ) →
      ((p < places M.carriers) × (open_at M s p ≡ true)) ↔ ((i : ℕ) × (i < length (open_places M s)) × (get_or (open_places M s) i 0 ≡ p))
  pub open_rising : (M : Machine) (s : State) (i j : ℕ) → i < j → j < length (open_places M s) →
      get_or (open_places M s) i 0 < get_or (open_places M s) j 0
  -- The generator's numbers are below 2^32, and what is drawn from them below 2^16.
  pub number_fits : (x : ℕ) → next_number x < 4294967296
  pub drawn_fits : (x : ℕ) → drawn_by x < 65536
  -- Every reported step was open when it was taken, and is the one that the order's rule takes.
  pub by_rule : (o : Order) (M : Machine) (seed : ℕ) → FollowsOrder o M (start_memory o seed) fresh (trial o M seed).report
  -- The state is the one after the reported steps.
  pub leads : (o : Order) (M : Machine) (seed : ℕ) → (trial o M seed).state ≡ after_steps M fresh (steps_in (trial o M seed).report)
  -- The trial ends silent, after at most the ceiling's number of steps.
  pub ends_silent : (o : Order) (M : Machine) (seed : ℕ) → is_silent M (trial o M seed).state ≡ true
  pub within_ceiling : (o : Order) (M : Machine) (seed : ℕ) → length (trial o M seed).report ≤ ceiling M.carriers
  -- The report is a history of the reference machine: single calls of these steps are answered so, and lead to the same state.
  pub replies_same : (o : Order) (M : Machine) (seed lent : ℕ) → M.needed ≤ lent →
      replies M fresh (calls_of lent (trial o M seed).report) ≡ replies_of (trial o M seed).report
  pub state_same : (o : Order) (M : Machine) (seed lent : ℕ) → M.needed ≤ lent →
      after M fresh (calls_of lent (trial o M seed).report) ≡ (trial o M seed).state
  -- The final answers are the sequential planner's.
  pub sequential_answers : (o : Order) (M : Machine) (seed : ℕ) → 1 ≤ M.depth →
      below M.carriers (trial o M seed).state.answer ≡ sequential M.respond M.carriers
  -- Under order 2 a step that stays open is taken within n (n + 1) / 2 taken steps, the taking counted: in a stretch of the trial in which
  -- it is open each time a step is taken, and is not taken, there are fewer steps.
  pub within_a_round : (M : Machine) (seed : ℕ) (x : Step) (xs ys zs : List Step) → 1 ≤ M.carriers →
      steps_in (trial round M seed).report ≡ xs ++ (ys ++ zs) → PassedOver M x (after_steps M fresh xs) ys →
      length ys < M.carriers * (M.carriers + 1) / 2
