-- The lister as an entry (document 02, slip 6): its refusals in order, its answer, and the lent report after it.
use Rattle.std.specs.Prelude.{ℕ, List, Result, leb, ltb, length}
use Rattle.laws.specs.Verdict.{Verdict, Outcome, ◌then◌, demand, ◌gives◌, when_passed}
use Rattle.laws.specs.Memory.{put}
use Rattle.floor.specs.declared.Floor.{Floor}
use Rattle.floor.specs.declared.Refusal.{Refusal}
use Rattle.floor.specs.Answers.{outcome_by}
use Rattle.floor.specs.Checks.{check_of, long_enough}
use Rattle.reference.specs.State.{fresh}
use Rattle.encoding.specs.Calls.{machine_of}
use Rattle.trial.specs.Report.{report_numbers, report_size}
use Rattle.listing.specs.Runs.{Run, runs_of, total, run_at, report_from}
use Rattle.lister.specs.declared.Listed.{Listed}
use Rattle.lister.specs.Lines.{listed_from}

-- The number of runs of a floor, and its run of a rank.
unfoldable pub total_of : Floor → List ℕ → ℕ
total_of f ws = total (machine_of f ws)

unfoldable pub run_of_rank : Floor → List ℕ → ℕ → Run
run_of_rank f ws rank = run_at (machine_of f ws) rank

-- The refusals of a floor whose runs are listed: the floor's, 9 for the lent report, which needs what the report of a trial needs, then
-- 14, 0 for more than three carriers.
unfoldable pub small_verdict : Floor → List ℕ → (report : ℕ) → Verdict
small_verdict f ws report = check_of f ws then long_enough (report_size f.carriers) report then demand (leb f.carriers 3) 14 0

-- The refusals of the entry: those, then 15, 0 for a rank not below the total.
unfoldable pub rank_verdict : Floor → List ℕ → (rank report : ℕ) → Verdict
rank_verdict f ws rank report = small_verdict f ws report then demand (ltb rank (total_of f ws)) 15 0

-- What is answered with a run: the total, and how many steps the run has.
pub record Figures : Type 0 where
  pub runs : ℕ
  pub steps : ℕ

-- What the code's answer says: the figures, or the refusal.
abbrev pub figures_told : Listed → Figures
figures_told x = record { runs = x.total; steps = x.steps }

abbrev pub listed_outcome : Result Listed Refusal → Outcome Figures
listed_outcome x = outcome_by figures_told x

-- What the entry answers.
unfoldable pub rank_outcome : Floor → List ℕ → (rank report : ℕ) → Outcome Figures
rank_outcome f ws rank report = rank_verdict f ws rank report gives record { runs = total_of f ws; steps = length (run_of_rank f ws rank) }

-- The numbers of the run of a rank, two a step as in the report of a trial.
unfoldable pub run_numbers : Floor → List ℕ → ℕ → List ℕ
run_numbers f ws rank = report_numbers (report_from (machine_of f ws) fresh (run_of_rank f ws rank))

-- The lent report afterwards: the run's numbers in its front, the rest as it was; all as it was with a refusal.
unfoldable pub report_listed : Floor → List ℕ → (rank : ℕ) → List ℕ → List ℕ
report_listed f ws rank m = when_passed (rank_verdict f ws rank (length m)) (put m 0 (run_numbers f ws rank)) m

-- The listing of many runs, for the desk: the floor's refusals, then 14; the total, and the lines of the runs from a rank on.
unfoldable pub list_verdict : Floor → List ℕ → Verdict
list_verdict f ws = check_of f ws then demand (leb f.carriers 3) 14 0

abbrev pub counted_outcome : Result ℕ Refusal → Outcome ℕ
counted_outcome x = outcome_by (λ n. n) x

unfoldable pub list_outcome : Floor → List ℕ → Outcome ℕ
list_outcome f ws = list_verdict f ws gives total_of f ws

unfoldable pub lines_listed : Floor → List ℕ → (first : ℕ) → List ℕ → List ℕ
lines_listed f ws first lines =
    when_passed (list_verdict f ws) (listed_from (machine_of f ws) first 0 (runs_of (machine_of f ws)) lines) lines
