-- The lent state of a call of the machine: kept with a refusal, and never written beyond its needed length.
use Prim.Native.Nat.{ℕ}
use mathlib.Core.Path.{◌≡◌, refl, sym, ◌∙◌}
use mathlib.Core.List.{List}
use lib.ListN.{drop}
use Rattle.laws.specs.Verdict.{Verdict, passed, refused, when_passed}
use Rattle.floor.specs.declared.Floor.{Floor}
use Rattle.reference.specs.State.{Machine}
use Rattle.reference.specs.Table.{Call, single, run_of, step as Asked-step, no_step}
use Rattle.encoding.specs.Places.{state_size}
use Rattle.reference.specs.Calls.{after_call}
use Rattle.encoding.specs.Calls.{machine_of, state_verdict, state_in, reply_to, memory_after, single_call, run_call}
use Rattle.encoding.specs.InnerCalls.{verdict_in, reply_in, granted_memory, memory_in}
use Rattle.encoding.proofs.SimulationLaws.{reply_in_lem, memory_in_lem}
use Rattle.encoding.proofs.StateLaws.{encode_beyond}
use Rattle.abi.specs.Word.{word_of, map_outcome}
use Rattle.abi.specs.Record.{floor_of}
use Rattle.kalomivund.specs.Answers.{of_reply, told_done}
use Rattle.kalomivund.specs.Entries.{step_word, step_stored, run_word, run_stored}
use Rattle.kalomivund.specs.Claims.{SaysRefused, KeepsLent}
use Rattle.kalomivund.proofs.KeepLaws.{checked_kept, after_kept, checked_beyond, record_lent_lem}

-- A memory that is left or kept is itself.
same_kept : (x : Verdict) (m : List ℕ) → when_passed x m m ≡ m
unfolding when_passed
same_kept passed m = refl
same_kept (refused k p) m = refl

-- A call that is refused changes no number.
inner_kept : (M : Machine) (m : List ℕ) (y : Call) → SaysRefused (word_of (map_outcome told_done (reply_in M m y))) → memory_in M m y ≡ m
unfolding memory_in reply_in granted_memory
inner_kept M m (single lent (Asked-step x)) h = checked_kept told_done (verdict_in M m (single lent (Asked-step x))) _ _ m h
inner_kept M m (single lent no_step) h = same_kept (verdict_in M m (single lent no_step)) m
inner_kept M m (run_of lent xs b) h = checked_kept told_done (verdict_in M m (run_of lent xs b)) _ _ m h

module _ (f : Floor) (ws m : List ℕ) (x : Call) where
  -- The number-by-number way to the same memory keeps it with a refusal.
  call_kept : SaysRefused (word_of (map_outcome told_done (reply_to f ws m x))) → memory_after f ws m x ≡ m
  call_kept h =
      let M = machine_of f ws in
      sym (memory_in_lem f ws m x)
      ∙ after_kept told_done (state_verdict f ws m) (reply_in M m x) (memory_in M m x) m (inner_kept M m x) (rw (← reply_in_lem f ws m x) at h)

  call_beyond : drop (state_size f.carriers) (memory_after f ws m x) ≡ drop (state_size f.carriers) m
  unfolding memory_after
  call_beyond =
      let z = after_call (machine_of f ws) (state_in f m) x in
      checked_beyond (state_verdict f ws m) (state_size f.carriers) _ m
      (λ e. encode_beyond f.carriers z m)

  call_lent : KeepsLent (state_size f.carriers) (word_of (of_reply (reply_to f ws m x))) (memory_after f ws m x) m
  unfolding of_reply
  call_lent = record { kept = call_kept; beyond = call_beyond }

pub step : (xs ws m : List ℕ) (x : ℕ) → KeepsLent (state_size (floor_of xs).carriers) (step_word xs ws m x) (step_stored xs ws m x) m
unfolding step_word step_stored
step xs ws m x = record_lent_lem xs _ _ m (call_lent (floor_of xs) ws m (single_call m x))

pub run : (xs ws m ys : List ℕ) (b : ℕ) → KeepsLent (state_size (floor_of xs).carriers) (run_word xs ws m ys b) (run_stored xs ws m ys b) m
unfolding run_word run_stored
run xs ws m ys b = record_lent_lem xs _ _ m (call_lent (floor_of xs) ws m (run_call m ys b))
