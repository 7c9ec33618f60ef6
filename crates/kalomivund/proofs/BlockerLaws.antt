-- The lent answers of who shuts a carrier in: kept with a refusal, and never written beyond their needed length.
use Prim.Native.Nat.{ℕ, ◌*◌}
use native.Mathlib.Omega.{arith}
use mathlib.Core.List.{List}
use lib.ListN.{length}
use Rattle.laws.proofs.PutLaws.{put_beyond}
use Rattle.laws.proofs.VerdictLaws.{then_both}
use Rattle.floor.proofs.LimitsLaws.{check_tells}
use Rattle.records.specs.Records.{stored}
use Rattle.planner.proofs.ResultLaws.{plan_size}
use Rattle.blockers.specs.Entry.{blockers_verdict, blockers_outcome, blockers_memory}
use Rattle.blockers.proofs.EntryLaws.{carrier_granted}
use Rattle.abi.specs.Word.{done, of_number}
use Rattle.abi.specs.Record.{floor_of}
use Rattle.kalomivund.specs.Entries.{blockers_word, blockers_stored}
use Rattle.kalomivund.specs.Claims.{KeepsLent}
use Rattle.kalomivund.proofs.KeepLaws.{checked_lent, record_lent_lem}

pub blockers : (xs ws : List ℕ) (carrier : ℕ) (m : List ℕ) → KeepsLent (65 * (floor_of xs).carriers)
    (blockers_word xs ws carrier (length m)) (blockers_stored xs ws carrier m) m
unfolding blockers_word blockers_stored blockers_outcome blockers_memory blockers_verdict stored of_number
blockers xs ws carrier m =
    let f = floor_of xs in
    record_lent_lem xs _ _ m
    (checked_lent (done 0) (blockers_verdict f ws carrier (length m)) _ _ m
    (λ e.
    let ok = (carrier_granted f ws carrier (length m) (then_both _ _ e).0).checked in
    put_beyond m _ (65 * f.carriers) (omega (arith, plan_size f ws (check_tells f ws ok).bounds.horizon.1))))
