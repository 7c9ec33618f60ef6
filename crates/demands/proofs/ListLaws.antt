-- The simulation over a list of calls: by induction, the state being within the ranges before each call.
use Prim.Native.Nat.{ℕ, ◌+◌, ◌≤◌}
use native.Mathlib.Omega.{arith}
use native.Mathlib.Nat.{zero-add}
use mathlib.Core.List.{List, [], ◌∷◌, ◌++◌, map-append}
use mathlib.Core.Path.{◌≡◌, refl, sym, ◌∙◌}
use lib.ListN.{length, drop, length-drop}
use borrow.Author.Tests.{le-leb}
use Rattle.laws.specs.Verdict.{passed}
use Rattle.laws.specs.Memory.{put}
use Rattle.laws.proofs.VerdictLaws.{then_passed, demand_passes, when_passed_lem}
use Rattle.floor.specs.declared.Floor.{Floor}
use Rattle.floor.specs.Checks.{check_of, long_enough}
use Rattle.reference.specs.State.{Machine, State, fresh}
use Rattle.reference.specs.Table.{Call}
use Rattle.reference.specs.Calls.{reply, after_call, replies, after}
use Rattle.reference.specs.Quiescent.{replies_count}
use Rattle.reference.proofs.ReachLaws.{after_join}
use Rattle.encoding.specs.Places.{state_size}
use Rattle.encoding.specs.Encode.{encode}
use Rattle.encoding.specs.Ranges.{WithinRanges}
use Rattle.encoding.specs.Calls.{machine_of, place_verdict, fresh_memory}
use Rattle.encoding.proofs.StateLaws.{encode_length}
use Rattle.encoding.proofs.ExactLaws.{fresh_fits}
use Rattle.encoding.proofs.SimulationLaws.{call_fits}
use Rattle.demands.specs.Lists.{ProgramCall, answer_of, answers_of, memory_of, program_replies, program_memory}
use Rattle.demands.specs.Lists.{reference_call, reference_calls, reference_replies, reference_after}
use Rattle.demands.proofs.LentLaws.{lent_same}

-- The steps taken in two lists of calls, one behind the other.
count_join : (M : Machine) (s : State) (xs ys : List Call) →
    replies_count (replies M s (xs ++ ys)) ≡ replies_count (replies M s xs) + replies_count (replies M (after M s xs) ys)
unfolding replies after replies_count
count_join M s [] ys = sym (zero-add (replies_count (replies M s ys)))
count_join M s (x ∷ xs) ys = omega (arith, count_join M (after_call M s x) xs ys)

module _ (f : Floor) (ws : List ℕ) (ok : check_of f ws ≡ passed) (rest : List ℕ) (numbers : ℕ)
    (fills : numbers ≡ state_size f.carriers + length rest) where
  -- The reference machine of the floor.
  abbrev M : Machine
  M = machine_of f ws

  -- The program's list of calls from the memory of a state, and the reference machine's from the state.
  pub record ListSame (s : State) (xs : List ProgramCall) : Type 0 where
    pub answers : answers_of f ws (encode f.carriers s ++ rest) xs ≡ replies M s (reference_calls f numbers xs)
    pub memory : memory_of f ws (encode f.carriers s ++ rest) xs ≡ encode f.carriers (after M s (reference_calls f numbers xs)) ++ rest
    pub within_ranges : WithinRanges f (after M s (reference_calls f numbers xs))

  -- The first call by what is lent to it, the others from the state that it leaves.
  pub list_same : (s : State) → WithinRanges f s → (xs : List ProgramCall) → ListSame s xs
  unfolding answers_of memory_of reference_calls replies after
  list_same s fits [] = record { answers = refl; memory = refl; within_ranges = fits }
  list_same s fits (x ∷ xs) =
      let first = lent_same f ws ok rest numbers fills s fits x in
      let others = list_same (after_call M s (reference_call f numbers x)) (call_fits f ws ok s fits (reference_call f numbers x)) xs in
      record {
        answers = cc (first.0, first.1, others.answers);
        memory = cc (first.1, others.memory);
        within_ranges = others.within_ranges;
      }

-- From the fresh state in a memory that is long enough.
module _ (f : Floor) (ws m : List ℕ) (ok : check_of f ws ≡ passed) (long : state_size f.carriers ≤ length m) where
  -- The memory behind the state.
  abbrev beyond_state : List ℕ
  beyond_state = drop (state_size f.carriers) m

  memory_filled : length m ≡ state_size f.carriers + length beyond_state
  memory_filled = omega (arith, length-drop (state_size f.carriers) m)

  -- The fresh memory is that of the fresh state.
  fresh_same : fresh_memory f ws m ≡ encode f.carriers fresh ++ beyond_state
  unfolding fresh_memory place_verdict long_enough put
  fresh_same =
      when_passed_lem m (then_passed ok ∙ demand_passes 9 0 (le-leb (state_size f.carriers) (length m) long))
      ∙ rw (encode_length f.carriers fresh, zero-add) refl

  module _ (xs : List ProgramCall) where
    from_fresh : ListSame f ws ok beyond_state (length m) memory_filled fresh xs
    from_fresh = list_same f ws ok beyond_state (length m) memory_filled fresh (fresh_fits f) xs

    -- The answers, the memory, and the ranges after a list of calls.
    pub answers_same : program_replies f ws m xs ≡ reference_replies f ws (length m) xs
    unfolding program_replies reference_replies
    answers_same = rw fresh_same from_fresh.answers

    pub memory_same : program_memory f ws m xs ≡ encode f.carriers (reference_after f ws (length m) xs) ++ beyond_state
    unfolding program_memory reference_after
    memory_same = rw fresh_same from_fresh.memory

    pub after_fits : WithinRanges f (reference_after f ws (length m) xs)
    unfolding reference_after
    after_fits = from_fresh.within_ranges

    -- The answer to one more call.
    pub next_answer : (x : ProgramCall) → answer_of f ws (program_memory f ws m xs) x ≡
        reply (machine_of f ws) (reference_after f ws (length m) xs) (reference_call f (length m) x)
    next_answer x =
        rw memory_same (lent_same f ws ok beyond_state (length m) memory_filled (reference_after f ws (length m) xs) after_fits x).0

    -- The state after more calls, and the steps that the longer list takes.
    pub more_state : (ys : List ProgramCall) → reference_after f ws (length m) (xs ++ ys) ≡
        after (machine_of f ws) (reference_after f ws (length m) xs) (reference_calls f (length m) ys)
    unfolding reference_after reference_calls
    more_state ys = rw (map-append (reference_call f (length m)) xs ys) (after_join (machine_of f ws) fresh _ _)

    pub more_taken : (ys : List ProgramCall) → replies_count (reference_replies f ws (length m) (xs ++ ys)) ≡
        replies_count (reference_replies f ws (length m) xs)
        + replies_count (replies (machine_of f ws) (reference_after f ws (length m) xs) (reference_calls f (length m) ys))
    unfolding reference_replies reference_after reference_calls
    more_taken ys = rw (map-append (reference_call f (length m)) xs ys) (count_join (machine_of f ws) fresh _ _)
