-- The claims, proved.
use Prim.Native.Nat.{ℕ, ◌*◌, ◌≤◌, ◌<◌}
use native.Mathlib.Omega.{arith}
use mathlib.Core.List.{List}
use mathlib.Core.Path.{◌≡◌}
use lib.Dec.{ltb}
use lib.ListN.{length}
use borrow.Author.Tests.{ltb-true}
use Rattle.laws.specs.Verdict.{passed}
use Rattle.laws.proofs.VerdictLaws.{then_both, demand_holds}
use Rattle.floor.specs.declared.Floor.{Floor}
use Rattle.floor.specs.Checks.{check_of}
use Rattle.encoding.specs.Calls.{machine_of}
use Rattle.trial.specs.Report.{report_size}
use Rattle.trial.proofs.EntryLaws.{checked_carriers}
use Rattle.listing.proofs.Theorems.{theorems as listing-theorems, some_run}
use Rattle.lister.specs.Entry.{total_of, run_of_rank, rank_verdict, run_numbers}
use Rattle.lister.specs.Claims.{Claims}
use Rattle.lister.proofs.SameLaws.{total_fits}
use Rattle.lister.proofs.EntryLaws.{size_of}

numbers_length : (f : Floor) (ws : List ℕ) (rank : ℕ) → length (run_numbers f ws rank) ≡ 2 * length (run_of_rank f ws rank)
numbers_length f ws rank = size_of f ws rank

report_fits : (f : Floor) (ws : List ℕ) (rank report : ℕ) → rank_verdict f ws rank report ≡ passed →
    length (run_numbers f ws rank) ≤ report_size f.carriers
unfolding rank_verdict report_size run_of_rank total_of machine_of
report_fits f ws rank report e =
    let l = ltb-true rank (total_of f ws) (demand_holds (ltb rank (total_of f ws)) 15 0 (then_both _ _ e).1) in
    omega (arith, numbers_length f ws rank, listing-theorems.within_ceiling (machine_of f ws) rank l)

fits : (f : Floor) (ws : List ℕ) → check_of f ws ≡ passed → f.carriers ≤ 3 → total_of f ws < 4294967296
unfolding total_of machine_of
fits f ws ok few = total_fits (machine_of f ws) (checked_carriers f ws ok).0 few

pub theorems : Claims
unfolding total_of machine_of
theorems =
    record {
      some_run = λ f ws ok. some_run (machine_of f ws);
      total_fits = fits;
      numbers_length = numbers_length;
      report_fits = report_fits;
    }
