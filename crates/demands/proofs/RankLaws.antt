-- The rows of the lister, and its report: kept with a refusal, and never written beyond its needed length.
use Prim.Native.Nat.{ℕ}
use mathlib.Core.List.{List}
use lib.ListN.{length}
use borrow.Author.Tests.{leb-false, lt-leb, ltb-false, le-ltb}
use Rattle.floor.specs.declared.Floor.{Floor}
use Rattle.lengths.specs.Figures.{lengths_of}
use Rattle.trial.specs.Report.{report_size}
use Rattle.lister.specs.Entry.{total_of, run_numbers, small_verdict, rank_verdict, rank_outcome, report_listed}
use Rattle.lister.proofs.Theorems.{theorems as lister-theorems}
use Rattle.demands.specs.Rows.{Refuses, Answers, Keeps}
use Rattle.demands.specs.Demand1.{SmallRows, RankRows}
use Rattle.demands.proofs.RowLaws.{then_rows, gives_rows, demand_row, short_row, keeps_when}
use Rattle.laws.proofs.PutLaws.{put_beyond}
use Rattle.demands.proofs.EntryLaws.{floor_rows}

module _ (f : Floor) (ws : List ℕ) where
  small_rows : (report : ℕ) → Refuses (small_verdict f ws report) (SmallRows f ws report)
  unfolding small_verdict lengths_of
  small_rows report =
      then_rows _ _ (floor_rows f ws) (λ e.
      then_rows _ _ (short_row _ _) (λ g. demand_row _ 14 0 (leb-false f.carriers 3, lt-leb f.carriers 3)))

  rank_rows : (rank report : ℕ) → Refuses (rank_verdict f ws rank report) (RankRows f ws rank report)
  unfolding rank_verdict
  rank_rows rank report =
      then_rows _ _ (small_rows report) (λ e. demand_row _ 15 0 (ltb-false rank (total_of f ws), le-ltb rank (total_of f ws)))

  pub run_of_rank_lem : (rank report : ℕ) → Answers (rank_outcome f ws rank report) (RankRows f ws rank report)
  unfolding rank_outcome
  run_of_rank_lem rank report = gives_rows (rank_verdict f ws rank report) _ (rank_rows rank report)

  pub run_keeps_report : (rank : ℕ) (old : List ℕ) →
      Keeps (RankRows f ws rank (length old)) (lengths_of f).report old (report_listed f ws rank old)
  unfolding report_listed lengths_of
  run_keeps_report rank old =
      keeps_when _ (rank_verdict f ws rank (length old)) (rank_rows rank (length old)) (λ e.
      put_beyond old (run_numbers f ws rank) (report_size f.carriers) (lister-theorems.report_fits f ws rank (length old) e))
