-- A point inside a run: the run cut there, and the rest of its list as a later call.
use Prim.Native.Nat.{ℕ, ◌-◌, ◌≤◌}
use mathlib.Core.List.{List, [], ◌∷◌, ◌++◌, map, map-append}
use mathlib.Core.Path.{◌≡◌, refl, sym, ◌∙◌}
use lib.ListN.{length}
use Rattle.laws.specs.Verdict.{passed, value}
use Rattle.laws.proofs.VerdictLaws.{then_passed, then_both}
use Rattle.floor.specs.declared.Floor.{Floor}
use Rattle.floor.specs.Checks.{check_of}
use Rattle.reference.specs.State.{Machine, State}
use Rattle.reference.specs.Run.{run}
use Rattle.reference.specs.Table.{Asked, run_of, steps_of, lent_enough, all_named, verdict}
use Rattle.reference.specs.Calls.{CallAnswer}
use Rattle.reference.specs.Quiescent.{reply_count}
use Rattle.reference.proofs.TableLaws.{lent_enough_lem, named_front}
use Rattle.reference.proofs.ReachLaws.{run_reply}
use Rattle.reference.proofs.Theorems.{theorems}
use Rattle.encoding.specs.Places.{state_size}
use Rattle.encoding.specs.Numbers.{asked_by}
use Rattle.encoding.specs.Calls.{machine_of}
use Rattle.demands.specs.Lists.{ProgramCall, one_run, answer_of, program_memory}
use Rattle.demands.specs.Lists.{lent_length, reference_call, reference_calls, reference_after}
use Rattle.demands.specs.Demand3.{returned, Cut}
use Rattle.demands.proofs.RefusalLaws.{reply_value}
use Rattle.demands.proofs.ListLaws.{answers_same, memory_same, next_answer, more_state, more_taken}

module _ (f : Floor) (ws m : List ℕ) (ok : check_of f ws ≡ passed) (long : state_size f.carriers ≤ length m) (zs : List ProgramCall)
    (k n : ℕ) (xs ys : List ℕ) (b : ℕ) (told : CallAnswer)
    (answered : answer_of f ws (program_memory f ws m zs) (one_run k n (xs ++ ys) b) ≡ value told) where
  -- The reference machine of the floor, its state after the calls, and the length of lent memory that it compares.
  abbrev M : Machine
  M = machine_of f ws

  abbrev s : State
  s = reference_after f ws (length m) zs

  abbrev lent : ℕ
  lent = lent_length f (length m) k n

  -- The steps of the two parts as they are asked for, and the run in one and in two.
  abbrev front : List Asked
  front = map asked_by xs

  abbrev back : List Asked
  back = map asked_by ys

  abbrev whole : List ProgramCall
  whole = one_run k n (xs ++ ys) b ∷ []

  abbrev parts : List ProgramCall
  parts = one_run k n xs b ∷ one_run k n ys (b - returned f ws m zs k n xs b) ∷ []

  -- The whole run is lent enough, and its steps are there.
  passes : (lent_enough M lent ≡ passed) × (all_named M (front ++ back) ≡ passed)
  unfolding reference_call verdict
  passes =
      let answer = sym (next_answer f ws m ok long zs (one_run k n (xs ++ ys) b)) ∙ answered in
      then_both _ _ (reply_value M s (run_of lent (front ++ back) b) told (rw map-append at answer))

  -- The number that the first part returns is the number that it takes.
  taken_first : returned f ws m zs k n xs b ≡ (run M s (steps_of front) b).taken
  unfolding reference_call reply_count verdict
  taken_first =
      rw (
        next_answer f ws m ok long zs (one_run k n xs b),
        run_reply M s lent front b (then_passed passes.0 ∙ named_front M front back passes.1),
      )
      refl

  -- The run in one and in two as the reference machine is given it.
  reference_whole : reference_calls f (length m) whole ≡ run_of lent (front ++ back) b ∷ []
  unfolding reference_calls reference_call
  reference_whole = rw map-append refl

  reference_parts : reference_calls f (length m) parts ≡ run_of lent front b ∷ run_of lent back (b - (run M s (steps_of front) b).taken) ∷ []
  unfolding reference_calls reference_call
  reference_parts = rw taken_first refl

  same_state : reference_after f ws (length m) (zs ++ whole) ≡ reference_after f ws (length m) (zs ++ parts)
  same_state =
      rw (more_state f ws m ok long zs whole, more_state f ws m ok long zs parts, reference_whole, reference_parts)
      (theorems.calls.cut_state M lent (lent_enough_lem M lent passes.0) s front back b passes.1)

  pub cut_there : Cut f ws m zs k n xs ys b
  cut_there =
      record {
        memory =
            memory_same f ws m ok long (zs ++ whole)
            ∙ rw same_state (sym (memory_same f ws m ok long (zs ++ parts)));
        state = same_state;
        taken =
            rw (
              answers_same f ws m ok long (zs ++ whole),
              answers_same f ws m ok long (zs ++ parts),
              more_taken f ws m ok long zs whole,
              more_taken f ws m ok long zs parts,
              reference_whole,
              reference_parts,
              theorems.calls.cut_taken M lent (lent_enough_lem M lent passes.0) s front back b passes.1,
            )
            refl;
      }
