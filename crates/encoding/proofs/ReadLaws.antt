-- What the memory of a state shows at each place: the encoding read back.
use Prim.Native.Nat.{ℕ, ◌/◌, ◌%◌, ◌<◌}
use native.Mathlib.Omega.{arith}
use native.Mathlib.Nat.{add-zero}
use mathlib.Core.Path.{◌≡◌, refl}
use mathlib.Core.List.{List, [], ◌∷◌, ◌++◌}
use lib.ListN.{length, get_or}
use Rattle.laws.specs.Memory.{part}
use Rattle.route.specs.Route.{heard}
use Rattle.reference.specs.State.{State}
use Rattle.encoding.specs.Places.{planned_place, due_place, answer_place, view_place, channel_place}
use Rattle.encoding.specs.Encode.{flag, channel_block, carrier_block, count_block, encode}
use Rattle.records.specs.Records.{slot}
use Rattle.encoding.proofs.WindowLaws.{StandsAt, window_whole, window_behind, window_inside, window_part, window_number, window_old}
use Rattle.encoding.proofs.SplitLaws.{channel_length}
use Rattle.records.proofs.SlotLaws.{slot_length}
use Rattle.encoding.proofs.StateLaws.{count_window, carrier_window, view_window, channel_window}

-- The record of a carrier's answer behind its two flags.
pub answer_inside : (s : State) (i : ℕ) → StandsAt 2 (carrier_block s i) (slot (heard (s.answer i)))
unfolding carrier_block
answer_inside s i =
    let xs = slot (heard (s.answer i)) in
    window_behind (flag (s.planned i) ∷ (flag (s.due i) ∷ [])) 2 2 refl refl (window_whole xs xs)

module _ (n : ℕ) (s : State) (rest : List ℕ) where
  -- The blocks of the state, where they stand.
  pub count_here : StandsAt 0 (encode n s ++ rest) (count_block s.taken)
  count_here = window_old (count_window n s rest s.taken)

  pub carrier_here : (i : ℕ) → i < n → StandsAt (planned_place i) (encode n s ++ rest) (carrier_block s i)
  carrier_here i l = window_old (carrier_window n s rest s.planned s.due s.answer i l (λ k x y. (refl, refl, refl)))

  view_here : (i j : ℕ) → j < i → i < n → StandsAt (view_place n i j) (encode n s ++ rest) (slot (s.view i j))
  view_here i j a b = window_old (view_window n s rest s.view i j a b (λ k j' x y z. refl))

  pub channel_here : (i j : ℕ) → j < i → i < n → StandsAt (channel_place n i j) (encode n s ++ rest) (channel_block (s.chan i j))
  channel_here i j a b = window_old (channel_window n s rest s.chan i j a b (λ k j' x y z. refl))

  -- The taken count.
  pub read_thousands : get_or (encode n s ++ rest) 0 0 ≡ s.taken / 1000
  unfolding count_block
  read_thousands = window_number 0 0 (omega arith) refl count_here

  pub read_rest : get_or (encode n s ++ rest) 1 0 ≡ s.taken % 1000
  unfolding count_block
  read_rest = window_number 1 1 (omega arith) refl count_here

  -- Planned and due of carrier i, and its answer.
  pub read_planned : (i : ℕ) → i < n → get_or (encode n s ++ rest) (planned_place i) 0 ≡ flag (s.planned i)
  unfolding carrier_block
  read_planned i l = window_number 0 (planned_place i) (omega arith) (add-zero (planned_place i)) (carrier_here i l)

  pub read_due : (i : ℕ) → i < n → get_or (encode n s ++ rest) (due_place i) 0 ≡ flag (s.due i)
  unfolding carrier_block planned_place due_place
  read_due i l = window_number 1 (due_place i) (omega arith) (omega arith) (carrier_here i l)

  pub read_answer : (i : ℕ) → i < n → part (encode n s ++ rest) (answer_place i) 65 ≡ slot (heard (s.answer i))
  unfolding planned_place answer_place
  read_answer i l =
      window_part 65 (slot_length (heard (s.answer i)))
      (window_inside (answer_place i) (omega arith) (carrier_here i l) (answer_inside s i))

  -- The view that i has of j, and the channel from j to i: its length, and all of it.
  pub read_view : (i j : ℕ) → j < i → i < n → part (encode n s ++ rest) (view_place n i j) 65 ≡ slot (s.view i j)
  read_view i j a b = window_part 65 (slot_length (s.view i j)) (view_here i j a b)

  pub read_length : (i j : ℕ) → j < i → i < n → get_or (encode n s ++ rest) (channel_place n i j) 0 ≡ length (s.chan i j)
  unfolding channel_block
  read_length i j a b = window_number 0 (channel_place n i j) (omega arith) (add-zero (channel_place n i j)) (channel_here i j a b)

  pub read_channel : (i j : ℕ) → j < i → i < n → part (encode n s ++ rest) (channel_place n i j) 261 ≡ channel_block (s.chan i j)
  read_channel i j a b = window_part 261 (channel_length (s.chan i j)) (channel_here i j a b)
