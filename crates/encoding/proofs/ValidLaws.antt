-- A memory is valid exactly if it is the encoding of a state within the ranges.
use Prim.Native.Nat.{ℕ, ◌/◌, ◌%◌, ◌≤◌, ◌<◌}
use native.Mathlib.Omega.{arith}
use mathlib.Core.Bool.{Bool, true, false}
use mathlib.Core.List.{List, ◌++◌}
use mathlib.Core.Path.{◌≡◌}
use borrow.Author.Tests.{lt-ltb, le-leb}
use lib.ListN.{length, take}
use Rattle.laws.specs.Memory.{part}
use Rattle.floor.specs.declared.Floor.{Floor}
use Rattle.laws.proofs.Tests.{and_both}
use Rattle.laws.specs.Verdict.{each}
use Rattle.reference.specs.State.{State}
use Rattle.laws.proofs.HoldLaws.{each_true}
use Rattle.encoding.specs.Places.{answer_place, view_place, channel_place, state_size}
use Rattle.encoding.specs.Encode.{flag, encode}
use Rattle.encoding.specs.Decode.{decode}
use Rattle.encoding.specs.Valid.{carrier_valid, pair_valid, count_valid, valid}
use Rattle.encoding.specs.Ranges.{WithinRanges}
use Rattle.encoding.proofs.ReadLaws.{read_thousands, read_rest, read_planned, read_due, read_answer, read_view, read_channel}
use Rattle.encoding.proofs.RecordLaws.{seen_valid, answer_valid}
use Rattle.encoding.proofs.ValidChannelLaws.{channel_valid_lem}
use Rattle.encoding.proofs.ValidDecodeLaws.{state_fits, encode_is}

-- A flag is 0 or 1.
flag_least : (x : Bool) → flag x ≤ 1
unfolding flag
flag_least true = omega arith
flag_least false = omega arith

-- The two numbers of a count are below 1000.
thousands_below : (t : ℕ) → t ≤ 999999 → t / 1000 < 1000
thousands_below t l = omega arith

rest_below : (t : ℕ) → t % 1000 < 1000
rest_below t = omega arith

-- The tests on the encoding of a state within the ranges.
module _ (f : Floor) (s : State) (rest : List ℕ) (h : WithinRanges f s) where
  -- Its memory.
  abbrev m : List ℕ
  m = encode f.carriers s ++ rest

  -- The tests of the count, of the carriers, of the pairs.
  count_fits : count_valid m ≡ true
  unfolding count_valid
  count_fits =
      let t = s.taken in
      rw (read_thousands f.carriers s rest, read_rest f.carriers s rest)
      (and_both (lt-ltb (t / 1000) 1000 (thousands_below t h.counted)) (lt-ltb (t % 1000) 1000 (rest_below t)))

  carrier_fits : (i : ℕ) → i < f.carriers → carrier_valid f m i ≡ true
  unfolding carrier_valid
  carrier_fits i l =
      let n = f.carriers in
      rw (read_planned n s rest i l, read_due n s rest i l)
      (and_both (le-leb (flag (s.planned i)) 1 (flag_least (s.planned i)))
      (and_both (le-leb (flag (s.due i)) 1 (flag_least (s.due i)))
      (answer_valid f m (answer_place i) (s.answer i) (read_answer n s rest i l) (h.parts.answers i l))))

  pair_fits : (i : ℕ) → i < f.carriers → (j : ℕ) → j < i → pair_valid f m i j ≡ true
  unfolding pair_valid
  pair_fits i b j a =
      let n = f.carriers in
      and_both (seen_valid m (view_place n i j) (s.view i j) (read_view n s rest i j a b) f (h.parts.seen i j a b))
      (channel_valid_lem m (channel_place n i j) (s.chan i j) (read_channel n s rest i j a b) f (h.channels i j a b)
      (h.parts.messages i j a b))

  -- All of them.
  all_fit : valid f m ≡ true
  unfolding valid
  all_fit =
      and_both count_fits
      (and_both (each_true f.carriers (carrier_valid f m) carrier_fits)
      (each_true f.carriers (λ i. each i (pair_valid f m i)) (λ i l. each_true i (pair_valid f m i) (pair_fits i l))))

-- The encoding of a state within the ranges is valid, whatever lies behind it.
pub fits_valid : (f : Floor) (s : State) (rest : List ℕ) → f.depth ≤ 4 → f.horizon ≤ 63 → WithinRanges f s
    → valid f (encode f.carriers s ++ rest) ≡ true
fits_valid f s rest d k h = all_fit f s rest h

-- A valid memory is the encoding of the state that it shows, and that state is within the ranges.
pub valid_fits : (f : Floor) (m : List ℕ) → f.depth ≤ 4 → f.horizon ≤ 63 → state_size f.carriers ≤ length m → valid f m ≡ true
    → WithinRanges f (decode f.carriers m) × (encode f.carriers (decode f.carriers m) ≡ take (state_size f.carriers) m)
unfolding part
valid_fits f m d h l e = (state_fits f m d h l e, encode_is f m d h l e)
