-- Every run of a small floor (document 02, slip 6): the runs that the lister tells are the complete runs of the reference machine, each at
-- one rank, in the order of their first differing step. The definitions are those that the contract of `lister::run_of_rank` cites.
use Rattle.std.specs.Prelude.{ℕ, ◌*◌, ◌≤◌, ◌<◌, List, [], ◌∷◌, ◌++◌, ◌↔◌, ◌≡◌, length, drop}
use Rattle.laws.specs.Verdict.{passed, value}
use Rattle.floor.specs.declared.Floor.{Floor}
use Rattle.floor.specs.Checks.{check_of}
use Rattle.planner.specs.Plan.{plan_of}
use Rattle.lengths.specs.Figures.{lengths_of}
use Rattle.reference.specs.Ranges.{below}
use Rattle.reference.specs.State.{fresh}
use Rattle.reference.specs.History.{after_steps}
use Rattle.reference.specs.Quiescent.{ceiling}
use Rattle.encoding.specs.Calls.{machine_of}
use Rattle.listing.specs.Runs.{Run}
use Rattle.listing.specs.Order.{Complete, EarlierRun}
use Rattle.lister.specs.Entry.{total_of, run_of_rank, run_numbers, rank_outcome, report_listed}

-- What the lister answers for a rank below the total, and leaves in memory that is lent for the report.
pub record TellsRun (f : Floor) (ws : List ℕ) (rank : ℕ) (report : List ℕ) : Type 0 where
  -- The total, and how many steps the run has.
  pub figures : rank_outcome f ws rank (length report) ≡ value (record { runs = total_of f ws; steps = length (run_of_rank f ws rank) })
  -- Two numbers a step, and behind them what was there.
  pub lines : report_listed f ws rank report ≡ run_numbers f ws rank ++ drop (2 * length (run_of_rank f ws rank)) report

pub record Runs : Type 0 where
  -- A run is complete, each step being open when it is taken and the last state silent, exactly if it is that of a rank below the total.
  pub complete_exactly : (f : Floor) (ws : List ℕ) (xs : Run) →
      Complete (machine_of f ws) fresh xs ↔ ((rank : ℕ) × (rank < total_of f ws) × (run_of_rank f ws rank ≡ xs))
  -- It has one rank; so the total is the number of complete runs.
  pub one_rank : (f : Floor) (ws : List ℕ) (rank rank' : ℕ) → rank < total_of f ws → rank' < total_of f ws →
      run_of_rank f ws rank ≡ run_of_rank f ws rank' → rank ≡ rank'
  -- A smaller rank is an earlier run: where the two first differ, its step is before the other's in the ranking.
  pub ranked : (f : Floor) (ws : List ℕ) (rank rank' : ℕ) → rank < total_of f ws → rank' < total_of f ws →
      (rank < rank') ↔ EarlierRun f.carriers (run_of_rank f ws rank) (run_of_rank f ws rank')
  -- A run has at most the ceiling's number of steps.
  pub within_ceiling : (f : Floor) (ws : List ℕ) (rank : ℕ) → rank < total_of f ws → length (run_of_rank f ws rank) ≤ ceiling f.carriers
  -- An accepted floor has a run; one of at most three carriers has fewer than 2^32.
  pub some_run : (f : Floor) (ws : List ℕ) → check_of f ws ≡ passed → 0 < total_of f ws
  pub total_fits : (f : Floor) (ws : List ℕ) → check_of f ws ≡ passed → f.carriers ≤ 3 → total_of f ws < 4294967296
  -- A rank below the total of such a floor, with memory of the needed length, is not refused.
  pub tells : (f : Floor) (ws : List ℕ) (rank : ℕ) (report : List ℕ) → check_of f ws ≡ passed → f.carriers ≤ 3 → rank < total_of f ws →
      (lengths_of f).report ≤ length report → TellsRun f ws rank report
