-- A state that is changed in one part only, and the window on its encoding where that part stands.
use Prim.Native.Nat.{ℕ, suc, ◌+◌, ◌*◌, ◌<◌}
use native.Mathlib.Omega.{arith}
use mathlib.Core.Bool.{Bool}
use mathlib.Core.Path.{◌≡◌, refl, ◌∙◌, ap}
use mathlib.Core.List.{List, ◌++◌}
use lib.ListN.{length, drop, length-append}
use Rattle.laws.specs.Memory.{put}
use Rattle.laws.proofs.PutLaws.{put_beyond}
use Rattle.route.specs.Route.{Answer, View}
use Rattle.reference.specs.State.{State}
use Rattle.encoding.specs.Places.{pairs_before, planned_place, view_place, channel_place, state_size}
use Rattle.encoding.specs.Encode.{channel_block, carrier_block, count_block, blocks, pairs, encode}
use Rattle.records.specs.Records.{slot}
use Rattle.encoding.proofs.WindowLaws.{Window, window_whole, window_front, window_behind}
use Rattle.encoding.proofs.SplitLaws.{blocks_length, blocks_window, pairs_length, pairs_window, channel_length}
use Rattle.records.proofs.SlotLaws.{slot_length}
use Rattle.encoding.proofs.SplitLaws.{carrier_length, count_length}

-- The state s with another taken count, with other carriers, other views, other channels.
unfoldable pub with_taken : State → ℕ → State
with_taken s t =
    record { planned = s.planned; due = s.due; answer = s.answer; view = s.view; chan = s.chan; taken = t }

unfoldable pub with_carriers : State → (ℕ → Bool) → (ℕ → Bool) → (ℕ → Answer) → State
with_carriers s φ ψ χ = record { planned = φ; due = ψ; answer = χ; view = s.view; chan = s.chan; taken = s.taken }

unfoldable pub with_views : State → (ℕ → ℕ → View) → State
with_views s φ = record { planned = s.planned; due = s.due; answer = s.answer; view = φ; chan = s.chan; taken = s.taken }

unfoldable pub with_chans : State → (ℕ → ℕ → List Answer) → State
with_chans s channels = record { planned = s.planned; due = s.due; answer = s.answer; view = s.view; chan = channels; taken = s.taken }

-- The blocks of the views and those of the channels.
abbrev view_blocks : (ℕ → ℕ → View) → ℕ → ℕ → List ℕ
view_blocks φ = λ i j. slot (φ i j)

abbrev chan_blocks : (ℕ → ℕ → List Answer) → ℕ → ℕ → List ℕ
chan_blocks channels = λ i j. channel_block (channels i j)

module _ (n : ℕ) (s : State) where
  carrier_sums : (i : ℕ) → i < n → 67 * suc i ≡ 67 * i + length (carrier_block s i)
  carrier_sums i l = omega (arith, carrier_length s i)

  pub carriers_length : length (blocks n (carrier_block s)) ≡ 67 * n
  carriers_length = blocks_length (λ k. 67 * k) refl n (carrier_block s) carrier_sums

  view_long : (i j : ℕ) → j < i → i < n → length (slot (s.view i j)) ≡ 65
  view_long i j a b = slot_length (s.view i j)

  chan_long : (i j : ℕ) → j < i → i < n → length (channel_block (s.chan i j)) ≡ 261
  chan_long i j a b = channel_length (s.chan i j)

  views_length : length (pairs n (view_blocks s.view)) ≡ 65 * pairs_before n
  views_length = pairs_length 65 n (view_blocks s.view) view_long

  chans_length : length (pairs n (chan_blocks s.chan)) ≡ 261 * pairs_before n
  chans_length = pairs_length 261 n (chan_blocks s.chan) chan_long

  -- The encoding of a state has the needed length.
  pub encode_length : length (encode n s) ≡ state_size n
  unfolding encode state_size
  encode_length =
      let xs = blocks n (carrier_block s) in
      let ys = pairs n (view_blocks s.view) in
      let zs = pairs n (chan_blocks s.chan) in
      length-append (count_block s.taken) (xs ++ (ys ++ zs))
      ∙ omega (
        arith,
        count_length s.taken,
        length-append xs (ys ++ zs),
        length-append ys zs,
        carriers_length,
        views_length,
        chans_length,
      )

  -- A state in the front of a memory leaves what lies behind it.
  pub encode_beyond : (m : List ℕ) → drop (state_size n) (put m 0 (encode n s)) ≡ drop (state_size n) m
  encode_beyond m = put_beyond m (encode n s) (state_size n) (omega (arith, encode_length))

  module _ (rest : List ℕ) where
    -- The taken count stands in front.
    pub count_window : (t : ℕ) →
        Window 0 (encode n s ++ rest) (encode n (with_taken s t) ++ rest) (count_block s.taken) (count_block t)
    unfolding encode with_taken carrier_block
    count_window t =
        let more = blocks n (carrier_block s) ++ (pairs n (view_blocks s.view) ++ pairs n (chan_blocks s.chan)) in
        window_front rest (window_front more (window_whole (count_block s.taken) (count_block t)))

    -- Carrier i stands at its place.
    pub carrier_window : (φ ψ : ℕ → Bool) (χ : ℕ → Answer) (i : ℕ) → i < n →
        ((k : ℕ) → k < n → (k ≡ i → ⊥) → (s.planned k ≡ φ k) × (s.due k ≡ ψ k) × (s.answer k ≡ χ k)) →
        Window (planned_place i) (encode n s ++ rest) (encode n (with_carriers s φ ψ χ) ++ rest) (carrier_block s i)
        (carrier_block (with_carriers s φ ψ χ) i)
    unfolding encode with_carriers planned_place carrier_block
    carrier_window φ ψ χ i l e =
        let xs = pairs n (view_blocks s.view) ++ pairs n (chan_blocks s.chan) in
        window_front rest
        (window_behind (count_block s.taken) 2 (2 + 67 * i) (count_length s.taken) refl
        (window_front xs
        (blocks_window (λ k. 67 * k) refl n (carrier_block s) (carrier_block (with_carriers s φ ψ χ)) i l carrier_sums
        (λ k x y. rw ((e k x y).0, (e k x y).1, (e k x y).2)))))

    -- The view that i has of j.
    pub view_window : (φ : ℕ → ℕ → View) (i j : ℕ) → j < i → i < n →
        ((k j' : ℕ) → j' < k → k < n → (k ≡ i → j' ≡ j → ⊥) → s.view k j' ≡ φ k j') →
        Window (view_place n i j) (encode n s ++ rest) (encode n (with_views s φ) ++ rest) (slot (s.view i j)) (slot (φ i j))
    unfolding encode with_views view_place carrier_block
    view_window φ i j a b e =
        let p = 65 * (pairs_before i + j) in
        window_front rest
        (window_behind (count_block s.taken) 2 (2 + 67 * n + p) (count_length s.taken) (omega arith)
        (window_behind (blocks n (carrier_block s)) (67 * n) (67 * n + p) carriers_length refl
        (window_front (pairs n (chan_blocks s.chan))
        (pairs_window 65 n (view_blocks s.view) view_long (view_blocks φ) i j a b (λ k j' x y z. ap slot (e k j' x y z))))))

    -- The channel from j to i.
    pub channel_window : (channels : ℕ → ℕ → List Answer) (i j : ℕ) → j < i → i < n →
        ((k j' : ℕ) → j' < k → k < n → (k ≡ i → j' ≡ j → ⊥) → s.chan k j' ≡ channels k j') →
        Window (channel_place n i j) (encode n s ++ rest) (encode n (with_chans s channels) ++ rest)
        (channel_block (s.chan i j)) (channel_block (channels i j))
    unfolding encode with_chans channel_place carrier_block
    channel_window channels i j a b e =
        let p = 261 * (pairs_before i + j) in
        window_front rest
        (window_behind (count_block s.taken) 2 (2 + 67 * n + 65 * pairs_before n + p) (count_length s.taken) (omega arith)
        (window_behind (blocks n (carrier_block s)) (67 * n) (67 * n + (65 * pairs_before n + p)) carriers_length refl
        (window_behind (pairs n (view_blocks s.view)) (65 * pairs_before n) (65 * pairs_before n + p) views_length refl
        (pairs_window 261 n (chan_blocks s.chan) chan_long (chan_blocks channels) i j a b
        (λ k j' x y z. ap channel_block (e k j' x y z))))))
