-- The lent memories of a trial: kept with a refusal, and never written beyond their needed lengths.
use Prim.Native.Nat.{ℕ}
use mathlib.Core.List.{List}
use lib.ListN.{length}
use Rattle.laws.proofs.PutLaws.{put_beyond}
use Rattle.laws.proofs.VerdictLaws.{then_both}
use Rattle.encoding.specs.Places.{state_size}
use Rattle.encoding.specs.Calls.{place_verdict}
use Rattle.encoding.proofs.StateLaws.{encode_beyond}
use Rattle.trial.specs.Report.{report_size, report_numbers}
use Rattle.trial.specs.Entry.{trial_verdict, trial_of, trial_outcome, state_tried, report_tried}
use Rattle.trial.proofs.Theorems.{theorems as trial-theorems}
use Rattle.abi.specs.Word.{done, of_number}
use Rattle.abi.specs.Record.{floor_of}
use Rattle.kalomivund.specs.Entries.{trial_word, trial_state_stored, trial_report_stored}
use Rattle.kalomivund.specs.Claims.{KeepsLent}
use Rattle.kalomivund.proofs.KeepLaws.{checked_lent, record_lent_lem}

pub trial_state : (xs ws : List ℕ) (order seed : ℕ) (m : List ℕ) (report : ℕ) → KeepsLent (state_size (floor_of xs).carriers)
    (trial_word xs ws order seed (length m) report) (trial_state_stored xs ws order seed m report) m
unfolding trial_word trial_state_stored trial_outcome state_tried of_number
trial_state xs ws order seed m report =
    let f = floor_of xs in
    let s = (trial_of f ws order seed).state in
    record_lent_lem xs _ _ m
    (checked_lent (done 0) (trial_verdict f ws order (length m) report) _ _ m
    (λ e. encode_beyond f.carriers s m))

pub trial_report : (xs ws : List ℕ) (order seed state : ℕ) (m : List ℕ) → KeepsLent (report_size (floor_of xs).carriers)
    (trial_word xs ws order seed state (length m)) (trial_report_stored xs ws order seed state m) m
unfolding trial_word trial_report_stored trial_outcome report_tried trial_verdict place_verdict of_number
trial_report xs ws order seed state m =
    let f = floor_of xs in
    record_lent_lem xs _ _ m
    (checked_lent (done 0) (trial_verdict f ws order state (length m)) _ _ m
    (λ e.
    let ok = (then_both _ _ (then_both _ _ e).0).0 in
    put_beyond m (report_numbers (trial_of f ws order seed).report) (report_size f.carriers)
    (trial-theorems.ends f ws order seed ok).fits))
