-- What is claimed of the entry's definitions; `proofs/Theorems.antt` inhabits the record. That a trial goes by the order's rule and ends
-- silent with the sequential planner's answers is claimed in the crate `orders`, for every machine, and so for that of a floor.
use Rattle.std.specs.Prelude.{◌≡◌, ℕ, ◌*◌, ◌<◌, ◌≤◌, true, ◌⊎◌, ◌↔◌, List, length}
use Rattle.laws.specs.Verdict.{passed, refused}
use Rattle.floor.specs.declared.Floor.{Floor}
use Rattle.floor.specs.Checks.{check_of}
use Rattle.route.specs.Sequential.{sequential}
use Rattle.planner.specs.Plan.{respond_of}
use Rattle.reference.specs.Ranges.{below}
use Rattle.reference.specs.Step.{Step, is_there}
use Rattle.reference.specs.Ranking.{is_silent}
use Rattle.reference.specs.Table.{step}
use Rattle.reference.specs.Quiescent.{ceiling}
use Rattle.encoding.specs.Places.{state_size}
use Rattle.encoding.specs.Ranges.{WithinRanges}
use Rattle.encoding.specs.Numbers.{asked_by}
use Rattle.encoding.specs.Calls.{machine_of}
use Rattle.trial.specs.Report.{number_of, report_numbers, report_size}
use Rattle.trial.specs.Entry.{trial_verdict, trial_of}

-- What holds of the trial of an accepted floor: it ends silent, within the ceiling, with the sequential planner's answers, in a state
-- within the ranges; its report fits the needed length.
pub record Ends (f : Floor) (ws : List ℕ) (order seed : ℕ) : Type 0 where
  pub silent : is_silent (machine_of f ws) (trial_of f ws order seed).state ≡ true
  pub within : length (trial_of f ws order seed).report ≤ ceiling f.carriers
  pub sequential_answers : below f.carriers (trial_of f ws order seed).state.answer ≡ sequential (respond_of f ws) f.carriers
  pub within_ranges : WithinRanges f (trial_of f ws order seed).state
  pub fits : length (report_numbers (trial_of f ws order seed).report) ≤ report_size f.carriers

pub record Claims : Type 0 where
  -- Every trial of an accepted floor ends so.
  pub ends : (f : Floor) (ws : List ℕ) (order seed : ℕ) → check_of f ws ≡ passed → Ends f ws order seed
  -- 11, 0 comes exactly if no older check refuses and the order is none of 1 to 3.
  pub eleven_exactly : (f : Floor) (ws : List ℕ) (order state report p : ℕ) →
      (trial_verdict f ws order state report ≡ refused 11 p) ↔
      ((check_of f ws ≡ passed) × (state_size f.carriers ≤ state) × (report_size f.carriers ≤ report) ×
      ((order < 1) ⊎ (3 < order)) × (p ≡ 0))
  -- A reported number names its step.
  pub number_names : (f : Floor) (ws : List ℕ) (x : Step) → f.carriers ≤ 8 → is_there (machine_of f ws) x ≡ true →
      asked_by (number_of x) ≡ step x
  -- The needed length of a report, two bytes a number, is at most 65,536 bytes; for eight carriers it is 1,004 numbers.
  pub report_small : (n : ℕ) → n ≤ 8 → 2 * report_size n ≤ 65536
  pub report_most : report_size 8 ≡ 1004
