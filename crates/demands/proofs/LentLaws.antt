-- A call on the memory of a state within the ranges, whatever is lent of the walls and of the memory: lent enough of both, it is the
-- simulation; lent too little of one, it is refused with 9 on both sides.
use Prim.Native.Nat.{ℕ, ◌+◌, ◌-◌, ◌≤◌, ◌<◌}
use native.Mathlib.Omega.{arith}
use mathlib.Core.List.{List, ◌++◌, map, append_assoc}
use mathlib.Core.Logic.{◌⊎◌, inl, inr}
use mathlib.Core.Path.{◌≡◌, refl, ◌∙◌, ap}
use lib.ListN.{length, take, drop, take-append-drop, length-take, length-append}
use lib.Seq.{take-append-add, drop-append-add}
use borrow.Author.Tests.{le-leb, lt-leb}
use Rattle.laws.specs.Verdict.{passed, refused}
use Rattle.laws.proofs.VerdictLaws.{then_passed, then_refused, demand_refuses, answers_refused, when_refused}
use Rattle.laws.proofs.Tests.{lt_or_le}
use Rattle.floor.specs.declared.Floor.{Floor}
use Rattle.floor.specs.Checks.{check_of, long_enough}
use Rattle.reference.specs.State.{Machine, State}
use Rattle.reference.specs.Table.{Call, single, run_of, verdict}
use Rattle.reference.specs.Refused.{short_single, short_run}
use Rattle.reference.specs.Calls.{reply, after_call}
use Rattle.reference.proofs.Theorems.{theorems}
use Rattle.encoding.specs.Places.{state_size}
use Rattle.encoding.specs.Encode.{encode}
use Rattle.encoding.specs.Ranges.{WithinRanges}
use Rattle.encoding.specs.Numbers.{asked_by}
use Rattle.encoding.specs.Calls.{machine_of, place_verdict, state_verdict, reply_to, memory_after, single_call, run_call}
use Rattle.encoding.proofs.StateLaws.{encode_length}
use Rattle.encoding.proofs.FloorLaws.{machine_lent, check_lent, check_short}
use Rattle.encoding.proofs.SimulationLaws.{simulated_reply, simulated_memory}
use Rattle.demands.specs.Lists.{ProgramCall, one_step, one_run, answer_of, left_by, lent_length, reference_call}
use Rattle.demands.proofs.RefusalLaws.{reply_refused, state_kept}

module _ (f : Floor) (ws : List ℕ) (ok : check_of f ws ≡ passed) (rest : List ℕ) (numbers : ℕ)
    (fills : numbers ≡ state_size f.carriers + length rest) (s : State) (fits : WithinRanges f s) where
  -- The reference machine, the needed length of its state, and the memory of the state.
  abbrev M : Machine
  M = machine_of f ws

  abbrev size : ℕ
  size = state_size f.carriers

  abbrev m : List ℕ
  m = encode f.carriers s ++ rest

  module _ (k n : ℕ) where
    -- The call is lent too few walls, or too little memory.
    abbrev Short : Type 0
    Short = (k < f.walls) ⊎ ((f.walls ≤ k) × (n < size))

    -- Lent enough walls, the reference machine compares the length of what is lent.
    lent_whole : f.walls ≤ k → lent_length f numbers k n ≡ length (take n m)
    unfolding lent_length
    lent_whole h =
        rw (le-leb f.walls k h)
        (omega (arith, length-take n m, length-append (encode f.carriers s) rest, encode_length f.carriers s))

    -- Lent too little, it compares a length that is too short, and the program refuses with 9.
    lent_short : Short → lent_length f numbers k n < size
    unfolding lent_length state_size
    lent_short (inl h) = rw (lt-leb f.walls k h) (omega arith)
    lent_short (inr h) = rw (le-leb f.walls k h.0) (omega arith)

    state_short : Short → state_verdict f (take k ws) (take n m) ≡ refused 9 0
    unfolding state_verdict place_verdict long_enough
    state_short (inl h) = then_refused _ (then_refused _ (check_short f ws ok k h))
    state_short (inr h) =
        then_refused _
        (then_passed (check_lent f ws ok k h.0) ∙ demand_refuses 9 0 (lt-leb size (length (take n m)) (omega (arith, length-take n m))))

    module _ (walls : f.walls ≤ k) (enough : size ≤ n) where
      -- What of the memory behind the state is lent, and what is not.
      split : n ≡ length (encode f.carriers s) + (n - size)
      split = omega (arith, encode_length f.carriers s)

      lent_memory : take n m ≡ encode f.carriers s ++ take (n - size) rest
      lent_memory = ap (λ (i : ℕ). take i m) split ∙ take-append-add (encode f.carriers s) rest (n - size)

      kept_memory : drop n m ≡ drop (n - size) rest
      kept_memory = ap (λ (i : ℕ). drop i m) split ∙ drop-append-add (encode f.carriers s) rest (n - size)

      -- Lent enough, a call is simulated, and what is not lent stays behind.
      enough_reply : (x : Call) → reply_to f (take k ws) (take n m) x ≡ reply M s x
      enough_reply x =
          rw (lent_memory, ← machine_lent f ws k walls)
          (simulated_reply f (take k ws) (check_lent f ws ok k walls) s fits (take (n - size) rest) x)

      enough_memory : (x : Call) → memory_after f (take k ws) (take n m) x ++ drop n m ≡ encode f.carriers (after_call M s x) ++ rest
      enough_memory x =
          rw (lent_memory, kept_memory, simulated_memory f (take k ws) (check_lent f ws ok k walls) s fits (take (n - size) rest) x)
          (rw (machine_lent f ws k walls, append_assoc, take-append-drop (n - size) rest) refl)

    -- A call as it is made of the length lent; lent too little, the table refuses it with 9.
    module _ (call : ℕ → Call) (nine : (lent : ℕ) → lent < M.needed → verdict M s (call lent) ≡ refused 9 0) where
      -- The call that the program is given, and the one that the reference machine is given.
      abbrev given : Call
      given = call (length (take n m))

      abbrev asked : Call
      asked = call (lent_length f numbers k n)

      -- The answer and the memory are the reference machine's, lent enough or not.
      abbrev Same : Type 0
      Same =
          (reply_to f (take k ws) (take n m) given ≡ reply M s asked) ×
          (memory_after f (take k ws) (take n m) given ++ drop n m ≡ encode f.carriers (after_call M s asked) ++ rest)

      enough_same : f.walls ≤ k → size ≤ n → Same
      enough_same h e = rw (lent_whole h) (enough_reply h e given, enough_memory h e given)

      short_same : Short → Same
      unfolding reply_to memory_after machine_of
      short_same h =
          let v = nine (lent_length f numbers k n) (lent_short h) in
          rw (state_kept M s asked 9 0 v, reply_refused M s asked 9 0 v)
          (answers_refused _ (state_short h), rw (when_refused _ (state_short h)) (take-append-drop n m))

      call_same : Same
      call_same = go (lt_or_le k f.walls) (lt_or_le n size)
        where
          go : (k < f.walls) ⊎ (f.walls ≤ k) → (n < size) ⊎ (size ≤ n) → Same
          go (inl a) b = short_same (inl a)
          go (inr a) (inl b) = short_same (inr (a, b))
          go (inr a) (inr b) = enough_same a b

  -- The answer to a call of the program, and the memory after it.
  pub lent_same : (y : ProgramCall) → (answer_of f ws m y ≡ reply M s (reference_call f numbers y)) ×
      (left_by f ws m y ≡ encode f.carriers (after_call M s (reference_call f numbers y)) ++ rest)
  unfolding answer_of left_by reference_call single_call run_call
  lent_same (one_step walls lent x) =
      call_same walls lent (λ n. single n (asked_by x)) (λ n h. (theorems.calls.refuses_exactly M s _ 9 0).1 (short_single h))
  lent_same (one_run walls lent xs b) =
      call_same walls lent (λ n. run_of n (map asked_by xs) b) (λ n h. (theorems.calls.refuses_exactly M s _ 9 0).1 (short_run h))
