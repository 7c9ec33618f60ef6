-- Listed runs, proved: what holds of every machine's runs, for the machine of a floor.
use Prim.Native.Nat.{ℕ, ◌+◌, ◌*◌, ◌≤◌, ◌<◌}
use native.Mathlib.Omega.{arith}
use native.Mathlib.Nat.{zero-add}
use mathlib.Core.List.{List, ◌++◌}
use mathlib.Core.Path.{◌≡◌, refl, ◌∙◌}
use lib.ListN.{length, drop}
use borrow.Author.Tests.{le-leb, lt-ltb}
use Rattle.laws.specs.Memory.{put}
use Rattle.laws.specs.Verdict.{passed}
use Rattle.laws.proofs.VerdictLaws.{then_passed, demand_passes, gives_passed, when_passed_lem}
use Rattle.floor.specs.declared.Floor.{Floor}
use Rattle.floor.specs.Checks.{check_of, long_enough}
use Rattle.lengths.specs.Figures.{lengths_of}
use Rattle.encoding.specs.Calls.{machine_of}
use Rattle.listing.proofs.Theorems.{theorems as listing-theorems}
use Rattle.lister.specs.Entry.{total_of, run_of_rank, small_verdict, rank_verdict, rank_outcome, run_numbers, report_listed}
use Rattle.lister.proofs.Theorems.{theorems as lister-theorems}
use Rattle.demands.specs.Runs.{TellsRun, Runs}

tells : (f : Floor) (ws : List ℕ) (rank : ℕ) (r : List ℕ) → check_of f ws ≡ passed → f.carriers ≤ 3 → rank < total_of f ws →
    (lengths_of f).report ≤ length r → TellsRun f ws rank r
unfolding lengths_of rank_verdict small_verdict long_enough rank_outcome report_listed put
tells f ws rank r ok few l lent =
    let passes : rank_verdict f ws rank (length r) ≡ passed =
    then_passed (then_passed ok ∙ then_passed (demand_passes 9 0 (le-leb _ _ lent)) ∙ demand_passes 14 0 (le-leb _ _ few))
    ∙ demand_passes 15 0 (lt-ltb _ _ l) in
    record {
      figures = gives_passed passes;
      lines = when_passed_lem r passes ∙ rw (lister-theorems.numbers_length f ws rank, zero-add) refl;
    }

pub theorem : Runs
unfolding total_of run_of_rank machine_of
theorem =
    record {
      complete_exactly = λ f ws xs. listing-theorems.complete_exactly (machine_of f ws) xs;
      one_rank = λ f ws rank rank' l h e. listing-theorems.one_rank (machine_of f ws) rank rank' l h e;
      ranked = λ f ws rank rank' l h. listing-theorems.ranked (machine_of f ws) rank rank' l h;
      within_ceiling = λ f ws rank l. listing-theorems.within_ceiling (machine_of f ws) rank l;
      some_run = lister-theorems.some_run;
      total_fits = lister-theorems.total_fits;
      tells = tells;
    }
