-- The simulation of the reference machine: on the memory of any state within the ranges a call gives the reference machine's answer
-- and leaves the memory of its next state, which is again within the ranges. Two states that have one memory are told apart by no call,
-- since both go the way of the memory; so the same holds of the state that a valid memory shows.
use Prim.Native.Nat.{ℕ, ◌≤◌}
use native.Mathlib.Omega.{arith}
use native.Mathlib.Nat.{zero-add}
use mathlib.Core.Bool.{Bool, true, false}
use mathlib.Core.List.{List, ◌++◌, map}
use mathlib.Core.Path.{◌≡◌, refl, sym, ◌∙◌, ap}
use lib.ListN.{length, take, drop, take-append-drop, length-append}
use borrow.Author.Tests.{le-leb}
use Rattle.laws.specs.Verdict.{Verdict, passed, refused, ◌then◌, demand, ◌then_answers◌, when_passed}
use Rattle.laws.specs.Memory.{put}
use Rattle.laws.proofs.VerdictLaws.{then_passed, then_both, demand_holds, demand_passes, answers_passed, gives_same, when_passed_lem}
use Rattle.floor.specs.declared.Floor.{Floor}
use Rattle.floor.specs.Checks.{check_of, long_enough}
use Rattle.floor.proofs.LimitsLaws.{length_passed}
use Rattle.records.proofs.RecordLaws.{Whole}
use Rattle.reference.specs.State.{Machine, State}
use Rattle.reference.specs.Step.{is_there, waits_for}
use Rattle.reference.specs.Take.{step_answer}
use Rattle.reference.specs.Ending.{RunEnding}
use Rattle.reference.specs.Table.{Asked, step, no_step, Call, single, run_of, steps_of, lent_enough, all_named, open_single, verdict}
use Rattle.reference.specs.Calls.{Reply, stepped, ran, reply, state_after, after_call}
use Rattle.reference.specs.Bounds.{InRange, Throughout}
use Rattle.reference.proofs.TableLaws.{single_open, named_each, all_steps}
use Rattle.reference.proofs.ReachLaws.{call_reaches}
use Rattle.reference.proofs.BoundLaws.{reaches_in_range}
use Rattle.reference.proofs.ThroughLaws.{throughout_more, reaches_throughout}
use Rattle.encoding.specs.Places.{state_size}
use Rattle.encoding.specs.Encode.{encode}
use Rattle.encoding.specs.Valid.{valid}
use Rattle.encoding.specs.Ranges.{Sound, WithinRanges}
use Rattle.encoding.specs.Calls.{machine_of, place_verdict, state_verdict, state_in, with_state, reply_to, memory_after}
use Rattle.encoding.specs.InnerSteps.{waits_in, step_answer_in}
use Rattle.encoding.specs.InnerCalls.{single_verdict_in, verdict_in, reply_in, granted_memory, memory_in}
use Rattle.encoding.proofs.StateLaws.{encode_length}
use Rattle.encoding.proofs.RecordLaws.{sound_whole}
use Rattle.encoding.proofs.OpenLaws.{waits_same}
use Rattle.encoding.proofs.StepLaws.{after_same, said_same}
use Rattle.encoding.proofs.RunLaws.{run_same, ending_same}
use Rattle.encoding.proofs.ValidLaws.{fits_valid, valid_fits}
use Rattle.encoding.proofs.FloorLaws.{depth_few, horizon_short, respond_sound, storable}

ran_both : {t u : ℕ} {x y : RunEnding} → t ≡ u → x ≡ y → ran t x ≡ ran u y
ran_both e h = rw (e, h)

module _ (f : Floor) (ws : List ℕ) (ok : check_of f ws ≡ passed) where
  abbrev M : Machine
  M = machine_of f ws

  abbrev n : ℕ
  n = f.carriers

  module _ (s : State) (fits : WithinRanges f s) where
    in_range : InRange M s
    unfolding machine_of
    in_range = record { channels = fits.channels; counted = fits.counted }

    whole : Throughout n Whole s
    whole = throughout_more n (sound_whole f) s fits.parts

    -- What a call leaves is within the ranges.
    pub call_fits : (x : Call) → WithinRanges f (after_call M s x)
    unfolding machine_of
    call_fits x =
        let reached = call_reaches M s x in
        let range = reaches_in_range M in_range reached in
        record {
          counted = range.counted;
          channels = range.channels;
          parts = reaches_throughout n (Sound f) M (respond_sound f ws ok) fits.parts reached;
        }

    module _ (rest : List ℕ) where
      abbrev m : List ℕ
      m = encode n s ++ rest

      -- A single step, and a run of steps that are there.
      single_same : (y : Asked) → single_verdict_in M m y ≡ open_single M s y
      unfolding single_verdict_in open_single demand ◌then◌ machine_of
      single_same no_step = refl
      single_same (step x) = there_same (is_there M x) refl
        where
          there_same : (y : Bool) → is_there M x ≡ y →
              (demand (is_there M x) 7 0 then waits_in M m x) ≡ (demand (is_there M x) 7 0 then waits_for M s x)
          there_same true e = ap (λ (y : Verdict). demand (is_there M x) 7 0 then y) (waits_same M s rest x e)
          there_same false e = rw e

      verdict_same : (x : Call) → verdict_in M m x ≡ verdict M s x
      unfolding verdict_in verdict
      verdict_same (single lent x) = rw (single_same x)
      verdict_same (run_of lent xs b) = refl

      steps_there : (lent : ℕ) (xs : List Asked) (b : ℕ) → verdict M s (run_of lent xs b) ≡ passed → map step (steps_of xs) ≡ xs
      unfolding verdict
      steps_there lent xs b e = all_steps M xs (named_each M xs (then_both (lent_enough M lent) (all_named M xs) e).1)

      pub reply_same : (y : Call) → reply_in M m y ≡ reply M s y
      unfolding reply_in reply machine_of
      reply_same (single lent no_step) = refl
      reply_same (single lent (step x)) =
          rw (verdict_same (single lent (step x)))
          (gives_same (verdict M s (single lent (step x))) (stepped (step_answer_in M m x)) (stepped (step_answer M s x))
          (λ e. ap stepped (said_same M (storable f ws ok) s in_range whole rest x (single_open M s lent x e))))
      reply_same (run_of lent xs b) =
          rw (verdict_same (run_of lent xs b))
          (gives_same (verdict M s (run_of lent xs b)) _ _
          (λ e.
          let r = run_same M (storable f ws ok) rest s (steps_of xs) b in_range whole in
          let q = ending_same M (storable f ws ok) rest s (steps_of xs) b in_range whole in
          rw (steps_there lent xs b e) at (ran_both r.taken q)))

      taken_same : (y : Call) → verdict M s y ≡ passed → granted_memory M m y ≡ encode n (state_after M s y) ++ rest
      unfolding granted_memory state_after machine_of
      taken_same (single lent no_step) e = refl
      taken_same (single lent (step x)) e = after_same M (storable f ws ok) s in_range whole rest x (single_open M s lent x e)
      taken_same (run_of lent xs b) e =
          rw (steps_there lent xs b e) at (run_same M (storable f ws ok) rest s (steps_of xs) b in_range whole).memory

      pub memory_same : (x : Call) → memory_in M m x ≡ encode n (after_call M s x) ++ rest
      unfolding memory_in after_call when_passed
      memory_same x = rw (verdict_same x) (go (verdict M s x) (taken_same x))
        where
          go : (y : Verdict) → (y ≡ passed → granted_memory M m x ≡ encode n (state_after M s x) ++ rest) →
              when_passed y (granted_memory M m x) m ≡ encode n (when_passed y (state_after M s x) s) ++ rest
          go passed h = h refl
          go (refused k p) h = refl

  -- A memory with a state in its front.
  front_put : (m : List ℕ) (z : State) → with_state f m z ≡ encode n z ++ drop (state_size n) m
  unfolding put
  front_put m z = rw (encode_length n z, zero-add) refl

  -- A memory that the checks let through is that of the state which it shows.
  module _ (m : List ℕ) (e : state_verdict f ws m ≡ passed) where
    lent_long : state_size n ≤ length m
    unfolding state_verdict place_verdict
    lent_long = length_passed (state_size n) (length m) (then_both _ _ (then_both _ _ e).0).1

    is_valid : valid f m ≡ true
    unfolding state_verdict
    is_valid = demand_holds (valid f m) 10 0 (then_both (place_verdict f ws (length m)) _ e).1

    shown : WithinRanges f (state_in f m) × (encode n (state_in f m) ≡ take (state_size n) m)
    shown = valid_fits f m (depth_few f ws ok) (horizon_short f ws ok) lent_long is_valid

    shown_is : encode n (state_in f m) ++ drop (state_size n) m ≡ m
    shown_is = rw shown.1 (take-append-drop (state_size n) m)

    shown_reply : (x : Call) → reply_in M m x ≡ reply M (state_in f m) x
    shown_reply x = rw shown_is at (reply_same (state_in f m) shown.0 (drop (state_size n) m) x)

    shown_memory : (x : Call) → memory_in M m x ≡ with_state f m (after_call M (state_in f m) x)
    shown_memory x =
        (rw shown_is at (memory_same (state_in f m) shown.0 (drop (state_size n) m) x)) ∙ sym (front_put m (after_call M (state_in f m) x))

-- The answer to a call and the memory after it, number for number, on any floor and any memory.
module _ (f : Floor) (ws m : List ℕ) where
  floor_passes : state_verdict f ws m ≡ passed → check_of f ws ≡ passed
  unfolding state_verdict place_verdict
  floor_passes e = (then_both _ _ (then_both _ _ e).0).0

  pub reply_in_lem : (x : Call) → (state_verdict f ws m then_answers reply_in (machine_of f ws) m x) ≡ reply_to f ws m x
  unfolding reply_to ◌then_answers◌
  reply_in_lem x = go (state_verdict f ws m) refl
    where
      go : (y : Verdict) → state_verdict f ws m ≡ y →
          ◌≡◌ {A = Reply} (y then_answers reply_in (machine_of f ws) m x) (y then_answers reply (machine_of f ws) (state_in f m) x)
      go passed e = shown_reply f ws (floor_passes e) m e x
      go (refused k p) e = refl

  pub memory_in_lem : (x : Call) → when_passed (state_verdict f ws m) (memory_in (machine_of f ws) m x) m ≡ memory_after f ws m x
  unfolding memory_after when_passed
  memory_in_lem x = go (state_verdict f ws m) refl
    where
      go : (y : Verdict) → state_verdict f ws m ≡ y → when_passed y (memory_in (machine_of f ws) m x) m ≡
          when_passed y (with_state f m (after_call (machine_of f ws) (state_in f m) x)) m
      go passed e = shown_memory f ws (floor_passes e) m e x
      go (refused k p) e = refl

-- The simulation: from the memory of any state within the ranges, with any numbers behind it.
module _ (f : Floor) (ws : List ℕ) (ok : check_of f ws ≡ passed) (s : State) (fits : WithinRanges f s) (rest : List ℕ) where
  pub state_passes : state_verdict f ws (encode f.carriers s ++ rest) ≡ passed
  unfolding state_verdict place_verdict long_enough
  state_passes =
      let long : state_size f.carriers ≤ length (encode f.carriers s ++ rest) =
      omega (arith, length-append (encode f.carriers s) rest, encode_length f.carriers s)
      in
      then_passed (then_passed ok ∙ demand_passes 9 0 (le-leb _ _ long))
      ∙ demand_passes 10 0 (fits_valid f s rest (depth_few f ws ok) (horizon_short f ws ok) fits)

  pub simulated_reply : (x : Call) → reply_to f ws (encode f.carriers s ++ rest) x ≡ reply (machine_of f ws) s x
  simulated_reply x =
      sym (reply_in_lem f ws (encode f.carriers s ++ rest) x)
      ∙ answers_passed state_passes ∙ reply_same f ws ok s fits rest x

  pub simulated_memory : (x : Call) → memory_after f ws (encode f.carriers s ++ rest) x ≡
      encode f.carriers (after_call (machine_of f ws) s x) ++ rest
  simulated_memory x =
      sym (memory_in_lem f ws (encode f.carriers s ++ rest) x)
      ∙ when_passed_lem _ state_passes ∙ memory_same f ws ok s fits rest x
