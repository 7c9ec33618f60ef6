-- Demand 3, proved.
use Prim.Native.Nat.{ℕ, ◌≤◌, min}
use mathlib.Core.Bool.{true}
use mathlib.Core.List.{List, ◌++◌, map, map-append, Memᴰ}
use mathlib.Core.Logic.{◌⊎◌, inl, inr, ⊎_elim}
use mathlib.Core.Path.{◌≡◌, ◌∙◌}
use lib.ListN.{length, take}
use Rattle.laws.specs.Verdict.{passed, refusal}
use Rattle.floor.specs.declared.Floor.{Floor}
use Rattle.floor.specs.Checks.{check_of}
use Rattle.planner.specs.Plan.{plan_of}
use Rattle.reference.specs.Ranges.{below}
use Rattle.reference.specs.State.{Machine, State, fresh}
use Rattle.reference.specs.Step.{Step, is_open}
use Rattle.reference.specs.Ranking.{is_silent}
use Rattle.reference.specs.Table.{Call}
use Rattle.reference.specs.Quiescent.{idle, quiescent, replies_count, ceiling}
use Rattle.reference.proofs.Theorems.{theorems}
use Rattle.encoding.specs.Places.{state_size}
use Rattle.encoding.specs.Calls.{machine_of}
use Rattle.encoding.proofs.FloorLaws.{depth_some}
use Rattle.encoding.proofs.SimulationLaws.{call_fits, simulated_reply, simulated_memory}
use Rattle.demands.specs.Lists.{ProgramCall, program_replies, reference_call, reference_calls, reference_replies, reference_after}
use Rattle.demands.specs.Demand3.{Holds, Demand3}
use Rattle.demands.proofs.RefusalLaws.{replies_not_ten}
use Rattle.demands.proofs.ListLaws.{answers_same, memory_same, after_fits}
use Rattle.demands.proofs.CutLaws.{cut_there}

module _ (f : Floor) (ws m : List ℕ) (ok : check_of f ws ≡ passed) (long : state_size f.carriers ≤ length m) (ys : List ProgramCall) where
  -- The reference machine of the floor, its state after the calls, and the calls as it is given them.
  abbrev M : Machine
  M = machine_of f ws

  abbrev s : State
  s = reference_after f ws (length m) ys

  abbrev calls : List Call
  calls = reference_calls f (length m) ys

  depth : 1 ≤ M.depth
  unfolding machine_of
  depth = depth_some f ws ok

  never_ten : (p : ℕ) → Memᴰ (refusal 10 p) (program_replies f ws m ys) → ⊥
  unfolding reference_replies
  never_ten = rw (answers_same f ws m ok long ys) (replies_not_ten M fresh calls)

  ceiling_kept : replies_count (program_replies f ws m ys) ≤ ceiling f.carriers
  unfolding machine_of reference_replies
  ceiling_kept = rw (answers_same f ws m ok long ys) (theorems.calls.ceiling_holds M calls)

  silent_idle : is_silent M s ≡ idle f.carriers s
  unfolding machine_of
  silent_idle = theorems.steps.silent_idle M s depth

  progress : ((x : Step) × (is_open M s x ≡ true)) ⊎ (is_silent M s ≡ true)
  unfolding machine_of
  progress =
      ⊎_elim
      (λ (h : (x : Step) × (is_open M s x ≡ true)). inl h)
      (λ (h : idle f.carriers s ≡ true). inr (silent_idle ∙ h))
      (theorems.steps.progress M s depth)

  quiescent_answers : (k : ℕ) → k ≤ f.carriers → quiescent k s ≡ true → below k s.answer ≡ take k (plan_of f ws)
  unfolding machine_of plan_of reference_after
  quiescent_answers k l h = theorems.calls.quiescent_answers M calls k l h

  quiescent_answers_stay : (xs : List ProgramCall) (k : ℕ) → quiescent k s ≡ true →
      below k (reference_after f ws (length m) (ys ++ xs)).answer ≡ below k s.answer
  unfolding reference_after reference_calls
  quiescent_answers_stay xs k h =
      rw (map-append (reference_call f (length m)) ys xs)
      (theorems.calls.quiescent_answers_stay M calls (map (reference_call f (length m)) xs) k h)

  counted : s.taken ≡ min 999999 (replies_count (program_replies f ws m ys))
  unfolding reference_after reference_replies
  counted = rw (answers_same f ws m ok long ys) (theorems.calls.count_told M calls)

  holds : Holds f ws m ys
  holds =
      record {
        answers = answers_same f ws m ok long ys;
        memory = memory_same f ws m ok long ys;
        within_ranges = after_fits f ws m ok long ys;
        never_ten = never_ten;
        faithful = λ xs b. theorems.steps.run_faithful M s xs b;
        ceiling_kept = ceiling_kept;
        progress = progress;
        silent_idle = silent_idle;
        quiescent_answers = quiescent_answers;
        quiescent_answers_stay = quiescent_answers_stay;
        counted = counted;
      }

pub theorem : Demand3
theorem =
    record {
      holds = holds;
      cut_anywhere = cut_there;
      simulates = λ f ws ok s fits rest x.
          record {
            answer = simulated_reply f ws ok s fits rest x;
            memory = simulated_memory f ws ok s fits rest x;
            within_ranges = call_fits f ws ok s fits x;
          };
      open_exactly = theorems.steps.open_exactly;
    }
