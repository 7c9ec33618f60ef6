-- A valid memory is the encoding of the state that it shows, and that state is within the ranges.
use Prim.Native.Nat.{ℕ, zero, suc, ◌+◌, ◌*◌, ◌/◌, ◌%◌, ◌≤◌, ◌<◌}
use native.Mathlib.Omega.{arith}
use mathlib.Core.Bool.{Bool, true, ◌&&◌}
use mathlib.Core.List.{List, ◌++◌}
use mathlib.Core.Path.{◌≡◌, refl, sym, ◌∙◌, ap, ap₂}
use borrow.Author.Tests.{ltb-true, leb-true}
use lib.Dec.{leb, ltb, eqb}
use lib.ListN.{length, get_or}
use Rattle.laws.proofs.PartLaws.{part_split, part_none}
use Rattle.laws.specs.Memory.{part}
use Rattle.floor.specs.declared.Floor.{Floor}
use Rattle.route.specs.Route.{heard}
use Rattle.laws.proofs.Tests.{and_fst, and_snd}
use Rattle.laws.specs.Verdict.{each}
use Rattle.reference.specs.State.{State}
use Rattle.laws.proofs.HoldLaws.{each_holds}
use Rattle.encoding.specs.Places.{pairs_before, planned_place, due_place, answer_place, view_place, channel_place, state_size}
use Rattle.encoding.specs.Encode.{flag, channel_block, carrier_block, count_block, encode}
use Rattle.records.specs.Records.{slot, record_at, shown}
use Rattle.encoding.specs.Decode.{decode}
use Rattle.encoding.specs.Valid.{record_valid, channel_valid, carrier_valid, pair_valid, count_valid, valid}
use Rattle.encoding.specs.Ranges.{Sound, WithinRanges}
use Rattle.encoding.proofs.RecordLaws.{Recorded, record_told, answer_told}
use Rattle.encoding.proofs.ValidChannelLaws.{Channelled, channel_told}
use Rattle.encoding.proofs.ValidPartLaws.{part_two, blocks_part, pairs_part, pair_below}

-- A flag is read back.
flag_read : (x : ℕ) → leb x 1 ≡ true → flag (eqb x 1) ≡ x
unfolding flag
flag_read zero e = refl
flag_read (suc zero) e = refl
flag_read (suc (suc x)) e = absurd (omega (arith, leb-true (suc (suc x)) 1 e))

-- A valid memory that is long enough.
module _ (f : Floor) (m : List ℕ) (shallow : f.depth ≤ 4) (short : f.horizon ≤ 63) (long : state_size f.carriers ≤ length m)
    (e : valid f m ≡ true) where
  -- The carriers, the state that the memory shows, its pairs.
  abbrev n : ℕ
  n = f.carriers

  abbrev z : State
  z = decode n m

  abbrev P : ℕ
  P = pairs_before n

  -- The four parts of a state lie within the memory.
  count_inside : 2 ≤ length m
  unfolding state_size
  count_inside = omega arith

  carrier_inside : (i : ℕ) → i < n → 2 + 67 * i + 67 ≤ length m
  unfolding state_size
  carrier_inside i l = omega arith

  view_inside : (i j : ℕ) → j < i → i < n → view_place n i j + 65 ≤ length m
  unfolding state_size view_place
  view_inside i j a b = omega (arith, pair_below n i j a b)

  channel_inside : (i j : ℕ) → j < i → i < n → channel_place n i j + 261 ≤ length m
  unfolding state_size channel_place
  channel_inside i j a b = omega (arith, pair_below n i j a b)

  -- What the tests say.
  abbrev carriers_hold : Bool
  carriers_hold = each n (carrier_valid f m)

  abbrev pairs_hold : Bool
  pairs_hold = each n (λ i. each i (pair_valid f m i))

  count_holds : (get_or m 0 0 < 1000) × (get_or m 1 0 < 1000)
  unfolding valid count_valid
  count_holds =
      let h = and_fst (count_valid m) (carriers_hold && pairs_hold) e in
      let x = ltb (get_or m 0 0) 1000 in
      let y = ltb (get_or m 1 0) 1000 in
      (ltb-true (get_or m 0 0) 1000 (and_fst x y h), ltb-true (get_or m 1 0) 1000 (and_snd x y h))

  carrier_holds : (i : ℕ) → i < n → carrier_valid f m i ≡ true
  unfolding valid
  carrier_holds =
      each_holds n (carrier_valid f m) (and_fst carriers_hold pairs_hold (and_snd (count_valid m) (carriers_hold && pairs_hold) e))

  pair_holds : (i j : ℕ) → j < i → i < n → pair_valid f m i j ≡ true
  unfolding valid
  pair_holds i j a b =
      let h = and_snd carriers_hold pairs_hold (and_snd (count_valid m) (carriers_hold && pairs_hold) e) in
      each_holds i (pair_valid f m i) (each_holds n (λ i. each i (pair_valid f m i)) h i b) j a

  -- The parts of a carrier.
  module _ (i : ℕ) (l : i < n) where
    flags_hold : (leb (get_or m (planned_place i) 0) 1 ≡ true) × (leb (get_or m (due_place i) 0) 1 ≡ true)
        × (record_valid f m (answer_place i) 1 2 ≡ true)
    unfolding carrier_valid
    flags_hold =
        let x = leb (get_or m (planned_place i) 0) 1 in
        let y = leb (get_or m (due_place i) 0) 1 in
        let z = record_valid f m (answer_place i) 1 2 in
        let h = carrier_holds i l in
        (and_fst x (y && z) h, and_fst y z (and_snd x (y && z) h), and_snd y z (and_snd x (y && z) h))

    answer_is : (part m (answer_place i) 65 ≡ slot (heard (shown (record_at m (answer_place i)))))
        × Sound f (shown (record_at m (answer_place i)))
    unfolding answer_place
    answer_is = answer_told f m (answer_place i) short (omega (arith, carrier_inside i l)) flags_hold.2

    carrier_is : carrier_block z i ≡ part m (2 + 67 * i) 67
    unfolding carrier_block decode planned_place due_place answer_place
    carrier_is =
        let p = 2 + 67 * i in
        let due : p + 1 ≡ 3 + 67 * i = omega arith in
        let answer : p + 2 ≡ 4 + 67 * i = omega arith in
        let a = get_or m (2 + 67 * i) 0 in
        let b = get_or m (3 + 67 * i) 0 in
        sym
        (part_two m p 65 (omega (arith, carrier_inside i l))
        ∙ rw (due, answer, answer_is.0, flag_read a flags_hold.0, flag_read b flags_hold.1) refl)

  -- The parts of a pair.
  module _ (i j : ℕ) (a : j < i) (b : i < n) where
    view_is : Recorded f m (view_place n i j) 0 2 (record_at m (view_place n i j))
    unfolding pair_valid
    view_is =
        record_told f m (view_place n i j) 0 2 short (view_inside i j a b) (omega arith)
        (and_fst (record_valid f m (view_place n i j) 0 2) (channel_valid f m (channel_place n i j)) (pair_holds i j a b))

    channel_is : Channelled f m (channel_place n i j) (z.chan i j)
    unfolding pair_valid decode
    channel_is =
        channel_told f m (channel_place n i j) short shallow (channel_inside i j a b)
        (and_snd (record_valid f m (view_place n i j) 0 2) (channel_valid f m (channel_place n i j)) (pair_holds i j a b))

  -- The state is within the ranges.
  pub state_fits : WithinRanges f z
  unfolding decode
  state_fits =
      record {
        counted = omega (arith, count_holds);
        channels = λ i j a b. (channel_is i j a b).most;
        parts =
            record {
              answers = λ i l. (answer_is i l).1;
              messages = λ i j a b. (channel_is i j a b).sound;
              seen = λ i j a b. (view_is i j a b).sound;
            };
      }

  -- The count is read back.
  count_is : count_block z.taken ≡ part m 0 2
  unfolding count_block decode
  count_is =
      let a = get_or m 0 0 in
      let b = get_or m 1 0 in
      let thousands : (1000 * a + b) / 1000 ≡ a = omega (arith, count_holds) in
      let rest : (1000 * a + b) % 1000 ≡ b = omega (arith, count_holds) in
      rw (thousands, rest) (sym (part_two m 0 0 count_inside ∙ rw (part_none m 2)))

  -- The four parts, one behind the other, are the front of the memory.
  front_is : part m 0 (state_size n)
      ≡ part m 0 2 ++ (part m 2 (67 * n) ++ (part m (2 + 67 * n) (65 * P) ++ part m (2 + 67 * n + 65 * P) (261 * P)))
  unfolding state_size
  front_is =
      let size : 2 + 67 * n + 326 * P ≡ 2 + (67 * n + (65 * P + 261 * P)) = omega arith in
      let pairs = part_split m (2 + 67 * n) (65 * P) (261 * P) in
      rw size
      (part_split m 0 2 (67 * n + (65 * P + 261 * P))
      ∙ ap (λ (xs : List ℕ). part m 0 2 ++ xs)
      (part_split m 2 (67 * n) (65 * P + 261 * P) ∙ ap (λ (xs : List ℕ). part m 2 (67 * n) ++ xs) pairs))

  -- The views and the channels, where the encoding has them.
  view_part : (i j : ℕ) → j < i → i < n → slot (z.view i j) ≡ part m (2 + 67 * n + 65 * (pairs_before i + j)) 65
  unfolding view_place decode
  view_part i j a b = sym (view_is i j a b).same

  channel_part : (i j : ℕ) → j < i → i < n
      → channel_block (z.chan i j) ≡ part m (2 + 67 * n + 65 * P + 261 * (pairs_before i + j)) 261
  unfolding channel_place
  channel_part i j a b = sym (channel_is i j a b).same

  -- The encoding of the state is the front of the memory.
  pub encode_is : encode n z ≡ part m 0 (state_size n)
  unfolding encode
  encode_is =
      ap₂ ◌++◌ count_is
      (ap₂ ◌++◌ (blocks_part m 2 67 n (carrier_block z) carrier_is)
      (ap₂ ◌++◌ (pairs_part m (2 + 67 * n) 65 n (λ i j. slot (z.view i j)) view_part)
      (pairs_part m (2 + 67 * n + 65 * P) 261 n (λ i j. channel_block (z.chan i j)) channel_part)))
      ∙ sym front_is
