-- Inner matter: nothing claimed rests on this. What the inner functions are proved against.
use Rattle.std.specs.Prelude.{◌≡◌, ℕ, ◌*◌, ◌%◌, Bool, List, [], ◌∷◌, length, slice_index}
use Rattle.laws.specs.Memory.{put}
use Rattle.floor.specs.declared.Floor.{Floor}
use Rattle.laws.specs.Verdict.{Verdict, ◌then◌}
use Rattle.floor.specs.Checks.{long_enough}
use Rattle.orders.specs.Trial.{TrialResult, trial}
use Rattle.encoding.specs.Calls.{machine_of, place_verdict}
use Rattle.encoding.specs.InnerSteps.{open_in, after_in, step_answer_in}
use Rattle.steps.specs.Inner.{bare}
use Rattle.orders.specs.Generator.{drawn_by}
use Rattle.orders.specs.Orders.{Order, first, round, drawn, places, step_at, passing, remembered}
use Rattle.trial.specs.Report.{number_of, answer_number, report_size}

-- The refusals of a trial but that of its order: the floor's, 9 for the lent state, 9 for the lent report.
unfoldable pub room_verdict : Floor → List ℕ → (state report : ℕ) → Verdict
room_verdict f ws state report = place_verdict f ws state then long_enough (report_size f.carriers) report

-- The trial of a floor's machine in an order.
unfoldable pub trial_by : Floor → List ℕ → Order → (seed : ℕ) → TrialResult
trial_by f ws o seed = trial o (machine_of f ws) seed

-- The step at a place is open, as memory m shows it.
unfoldable pub opens_in : Floor → List ℕ → ℕ → Bool
opens_in f m p = open_in (bare f) m (step_at f.carriers p)

-- How many of the first k places are open.
unfoldable pub open_count : Floor → List ℕ → ℕ → ℕ
open_count f m k = length (passing (opens_in f m) k)

-- Which of the open places an order takes that remembers kept, and the place that it takes.
unfoldable pub turn_in : Order → Floor → List ℕ → ℕ → ℕ
turn_in first f m kept = 0
turn_in round f m kept = open_count f m kept
turn_in drawn f m kept = drawn_by kept

unfoldable pub chosen_in : Order → Floor → List ℕ → ℕ → ℕ
chosen_in o f m kept =
    slice_index (passing (opens_in f m) (places f.carriers)) (turn_in o f m kept % open_count f m (places f.carriers))

-- One more step of a trial in order o, at the place that it chooses: what is remembered, the memory and the report after it.
pub record Advanced (o : Order) (f : Floor) (ws m report : List ℕ) (kept t next : ℕ) (m' report' : List ℕ) : Type 0 where
  pub remembers : next ≡ remembered o kept (chosen_in o f m kept)
  pub stores : m' ≡ after_in (machine_of f ws) m (step_at f.carriers (chosen_in o f m kept))
  pub reports : report' ≡ put report (2 * t)
      (number_of (step_at f.carriers (chosen_in o f m kept)) ∷
      answer_number (step_answer_in (machine_of f ws) m (step_at f.carriers (chosen_in o f m kept))) ∷ [])
