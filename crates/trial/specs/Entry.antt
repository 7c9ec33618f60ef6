-- The trial as an entry: its refusals in order, its answer, and the lent memory after it.
use Rattle.std.specs.Prelude.{◌≡◌, ℕ, cond, List, length, Result, ◌==◌}
use Rattle.laws.specs.Verdict.{Verdict, Outcome, ◌then◌, demand, ◌gives◌, when_passed}
use Rattle.laws.specs.Memory.{put}
use Rattle.floor.specs.declared.Floor.{Floor}
use Rattle.floor.specs.declared.Refusal.{Refusal}
use Rattle.floor.specs.Answers.{outcome_by}
use Rattle.floor.specs.Checks.{within, long_enough}
use Rattle.encoding.specs.Calls.{machine_of, place_verdict, with_state}
use Rattle.orders.specs.Orders.{Order, first, round, drawn}
use Rattle.orders.specs.Trial.{TrialResult, trial}
use Rattle.trial.specs.declared.choice.Order.{Order as CodeOrder}
use Rattle.trial.specs.declared.choice.Order.TheVariants.{First, Round, Drawn}
use Rattle.trial.specs.Report.{report_numbers, report_size}

-- The order that a number from 1 to 3 names.
unfoldable pub order_by : ℕ → Order
order_by k = cond (k == 1) first (cond (k == 2) round drawn)

-- The refusals: the floor's, 9 for the lent state, 9 for the lent report, then 11, 0 for an order other than 1 to 3.
unfoldable pub trial_verdict : Floor → List ℕ → (order state report : ℕ) → Verdict
trial_verdict f ws order state report =
    place_verdict f ws state then long_enough (report_size f.carriers) report then demand (within 1 3 order) 11 0

-- The trial of a floor's machine.
unfoldable pub trial_of : Floor → List ℕ → (order seed : ℕ) → TrialResult
trial_of f ws order seed = trial (order_by order) (machine_of f ws) seed

-- What each case of the code's order says, and what the code answers for a number: that number's order, or 11, 0.
unfoldable pub order_meant : CodeOrder → Order
order_meant First = first
order_meant Round = round
order_meant Drawn = drawn

unfoldable pub OrderAsked : ℕ → Result CodeOrder Refusal → Type 0
OrderAsked k x = outcome_by order_meant x ≡ (demand (within 1 3 k) 11 0 gives order_by k)

-- What the code's answer says: the number of steps taken, or the refusal.
abbrev pub tried_outcome : Result ℕ Refusal → Outcome ℕ
tried_outcome x = outcome_by (λ t. t) x

-- What the entry answers: as many steps as the trial takes.
unfoldable pub trial_outcome : Floor → List ℕ → (order seed state report : ℕ) → Outcome ℕ
trial_outcome f ws order seed state report = trial_verdict f ws order state report gives length (trial_of f ws order seed).report

-- The lent state afterwards: the trial's last state in its front, the rest as it was; all as it was with a refusal.
unfoldable pub state_tried : Floor → List ℕ → (order seed : ℕ) → List ℕ → (report : ℕ) → List ℕ
state_tried f ws order seed m report =
    when_passed (trial_verdict f ws order (length m) report) (with_state f m (trial_of f ws order seed).state) m

-- The lent report afterwards: the trial's lines in its front, the rest as it was; all as it was with a refusal.
unfoldable pub report_tried : Floor → List ℕ → (order seed state : ℕ) → List ℕ → List ℕ
report_tried f ws order seed state m =
    when_passed (trial_verdict f ws order state (length m)) (put m 0 (report_numbers (trial_of f ws order seed).report)) m
