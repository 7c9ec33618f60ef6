-- What is claimed of the entry's definitions; `proofs/Theorems.antt` inhabits the record. What its runs are is claimed in the crate
-- `listing`, for every machine, and so for that of a floor.
use Rattle.std.specs.Prelude.{ℕ, ◌*◌, ◌≤◌, ◌<◌, List, ◌≡◌, length}
use Rattle.laws.specs.Verdict.{passed}
use Rattle.floor.specs.declared.Floor.{Floor}
use Rattle.floor.specs.Checks.{check_of}
use Rattle.trial.specs.Report.{report_size}
use Rattle.lister.specs.Entry.{total_of, run_of_rank, rank_verdict, run_numbers}

pub record Claims : Type 0 where
  -- An accepted floor has a run; one of at most three carriers has fewer than 2^32.
  pub some_run : (f : Floor) (ws : List ℕ) → check_of f ws ≡ passed → 0 < total_of f ws
  pub total_fits : (f : Floor) (ws : List ℕ) → check_of f ws ≡ passed → f.carriers ≤ 3 → total_of f ws < 4294967296
  -- The report of a run has two numbers a step, and fits the needed length.
  pub numbers_length : (f : Floor) (ws : List ℕ) (rank : ℕ) → length (run_numbers f ws rank) ≡ 2 * length (run_of_rank f ws rank)
  pub report_fits : (f : Floor) (ws : List ℕ) (rank report : ℕ) → rank_verdict f ws rank report ≡ passed →
      length (run_numbers f ws rank) ≤ report_size f.carriers
