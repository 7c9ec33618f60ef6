-- The lent report of the lister: kept with a refusal, and never written beyond its needed length.
use Prim.Native.Nat.{ℕ}
use mathlib.Core.List.{List}
use lib.ListN.{length}
use Rattle.trial.specs.Report.{report_size}
use Rattle.lister.specs.Entry.{rank_verdict, rank_outcome, run_numbers, report_listed}
use Rattle.lister.proofs.Theorems.{theorems as lister-theorems}
use Rattle.abi.specs.Record.{floor_of}
use Rattle.kalomivund.specs.Answers.{figures_done, of_rank}
use Rattle.kalomivund.specs.Entries.{rank_word, rank_stored}
use Rattle.kalomivund.specs.Claims.{KeepsLent}
use Rattle.laws.proofs.PutLaws.{put_beyond}
use Rattle.kalomivund.proofs.KeepLaws.{checked_lent, record_lent_lem}

pub run_report : (xs ws : List ℕ) (rank : ℕ) (m : List ℕ) → KeepsLent (report_size (floor_of xs).carriers)
    (rank_word xs ws rank (length m)) (rank_stored xs ws rank m) m
unfolding rank_word rank_stored rank_outcome report_listed of_rank
run_report xs ws rank m =
    let f = floor_of xs in
    record_lent_lem xs _ _ m
    (checked_lent figures_done (rank_verdict f ws rank (length m)) _ _ m
    (λ e. put_beyond m (run_numbers f ws rank) (report_size f.carriers) (lister-theorems.report_fits f ws rank (length m) e)))
