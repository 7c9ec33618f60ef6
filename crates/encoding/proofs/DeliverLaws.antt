-- A delivery in memory is a delivery.
use Prim.Native.Nat.{ℕ, ◌+◌, ◌≤◌, ◌<◌}
use native.Mathlib.Omega.{arith}
use mathlib.Core.Bool.{true, false}
use mathlib.Core.List.{List, [], ◌∷◌, ◌++◌}
use mathlib.Core.Logic.{⊎_elim}
use mathlib.Core.Path.{◌≡◌, refl, sym, ◌∙◌, ap}
use lib.ListN.{length}
use Rattle.laws.specs.Memory.{put}
use Rattle.route.specs.Route.{Answer, heard}
use Rattle.laws.proofs.Tests.{eq_or_ne, true_false_absurd}
use Rattle.reference.specs.Ranges.{update, update_pair}
use Rattle.reference.specs.State.{State}
use Rattle.reference.specs.Step.{is_empty}
use Rattle.reference.specs.Take.{oldest, newer, deliver_to}
use Rattle.reference.proofs.RangeLaws.{update_same, update_other, pair_same, pair_other, pair_other_row}
use Rattle.reference.proofs.OpenLaws.{nil_empty}
use Rattle.encoding.specs.Places.{planned_place, due_place, view_place, channel_place}
use Rattle.encoding.specs.Encode.{flag, carrier_block, encode}
use Rattle.records.specs.Records.{slot, moved}
use Rattle.encoding.specs.InnerSteps.{popped, delivered_in}
use Rattle.encoding.proofs.WindowLaws.{Window, window_whole, window_front, window_behind, window_inside, window_put}
use Rattle.records.proofs.SlotLaws.{slot_length}
use Rattle.encoding.proofs.StateLaws.{with_carriers, with_views, with_chans, carrier_window, view_window, channel_window}
use Rattle.encoding.proofs.ReadLaws.{channel_here}
use Rattle.encoding.proofs.ChannelLaws.{moved_is, popped_is, oldest_stands}

-- An updated pair is the same at every other pair.
pub pair_elsewhere : {A : Type 0} (φ : ℕ → ℕ → A) (i j : ℕ) (x : A) (k j' : ℕ) → (k ≡ i → j' ≡ j → ⊥) → φ k j' ≡ update_pair φ i j x k j'
pair_elsewhere φ i j x k j' h =
    ⊎_elim
    (λ (e : k ≡ i). rw e (sym (pair_other φ i j x j' (h e))))
    (λ (e : k ≡ i → ⊥). ap (λ (φ : ℕ → _). φ j') (sym (pair_other_row φ i j x k e)))
    (eq_or_ne k i)

-- The flag due of a carrier that stays the same otherwise.
due_inside : (s z : State) (i : ℕ) → s.planned i ≡ z.planned i → s.answer i ≡ z.answer i →
    Window 1 (carrier_block s i) (carrier_block z i) (flag (s.due i) ∷ []) (flag (z.due i) ∷ [])
unfolding carrier_block
due_inside s z i p a =
    rw (p, a)
    (window_behind (flag (z.planned i) ∷ []) 1 1 refl refl
    (window_front (slot (heard (z.answer i))) (window_whole (flag (s.due i) ∷ []) (flag (z.due i) ∷ []))))

module _ (n : ℕ) (s : State) (rest : List ℕ) where
  -- Carrier i becomes due.
  put_due : (i : ℕ) → i < n →
      put (encode n s ++ rest) (due_place i) (1 ∷ []) ≡ encode n (with_carriers s s.planned (update s.due i true) s.answer) ++ rest
  unfolding due_place planned_place with_carriers flag
  put_due i l =
      let z = with_carriers s s.planned (update s.due i true) s.answer in
      let one : flag (update s.due i true i) ≡ 1 = ap flag (update_same s.due i true) in
      window_put refl
      (window_inside (due_place i) (omega arith)
      (carrier_window n s rest s.planned (update s.due i true) s.answer i l
      (λ k x y. (refl, sym (update_other s.due i true k y), refl)))
      (rw one at (due_inside s z i refl refl)))

  -- The oldest message becomes the view.
  moved_same : (i j : ℕ) (z : Answer) (xs : List Answer) → j < i → i < n → s.chan i j ≡ z ∷ xs →
      moved (encode n s ++ rest) (channel_place n i j + 1) (view_place n i j) ≡
      encode n (with_views s (update_pair s.view i j (heard z))) ++ rest
  moved_same i j z xs x y e =
      moved_is
      (window_inside (channel_place n i j + 1) refl (rw e at (channel_here n s rest i j x y)) (oldest_stands z xs))
      (rw (pair_same s.view i j (heard z)) at
      (view_window n s rest (update_pair s.view i j (heard z)) i j x y (λ k j' u v h. pair_elsewhere s.view i j (heard z) k j' h)))
      (slot_length (heard z))
      (slot_length (s.view i j))

  -- It leaves its channel.
  popped_same : (i j : ℕ) → j < i → i < n → 0 < length (s.chan i j) → length (s.chan i j) ≤ 4 →
      popped (encode n s ++ rest) (channel_place n i j) ≡ encode n (with_chans s (update_pair s.chan i j (newer (s.chan i j)))) ++ rest
  popped_same i j x y low high =
      popped_is (s.chan i j) low high
      (rw (pair_same s.chan i j (newer (s.chan i j))) at
      (channel_window n s rest (update_pair s.chan i j (newer (s.chan i j))) i j x y
      (λ k j' u v h. pair_elsewhere s.chan i j (newer (s.chan i j)) k j' h)))

-- The three changes of a delivery, one after the other.
module _ (n : ℕ) (s : State) (rest : List ℕ) (i j : ℕ) (above : j < i) (there : i < n) where
  -- The state after them is the state after the delivery.
  delivered_state : (x : Answer) (xs : List Answer) → s.chan i j ≡ x ∷ xs →
      with_carriers
      (with_chans (with_views s (update_pair s.view i j (heard x))) (update_pair s.chan i j (newer (s.chan i j))))
      s.planned
      (update s.due i true)
      s.answer ≡ deliver_to s j i
  unfolding deliver_to with_views with_chans with_carriers oldest
  delivered_state x xs e = rw e

  delivered_full : (y : Answer) (xs : List Answer) → s.chan i j ≡ y ∷ xs → length (s.chan i j) ≤ 4 →
      delivered_in n (encode n s ++ rest) j i ≡ encode n (deliver_to s j i) ++ rest
  unfolding delivered_in with_views with_chans with_carriers
  delivered_full y xs e few =
      let c = channel_place n i j in
      let s₁ = with_views s (update_pair s.view i j (heard y)) in
      let s₂ = with_chans s₁ (update_pair s.chan i j (newer (s.chan i j))) in
      let full : 0 < length (s.chan i j) = rw e (omega arith) in
      ap (λ (xs : List ℕ). put (popped xs c) (due_place i) (1 ∷ [])) (moved_same n s rest i j y xs above there e)
      ∙ ap (λ (xs : List ℕ). put xs (due_place i) (1 ∷ [])) (popped_same n s₁ rest i j above there full few)
      ∙ put_due n s₂ rest i there
      ∙ ap (λ (z : State). encode n z ++ rest) (delivered_state y xs e)

  -- A delivery from a channel that is not empty.
  pub delivered_same : is_empty (s.chan i j) ≡ false → length (s.chan i j) ≤ 4 →
      delivered_in n (encode n s ++ rest) j i ≡ encode n (deliver_to s j i) ++ rest
  delivered_same h few = go (s.chan i j) refl
    where
      go : (xs : List Answer) → s.chan i j ≡ xs → delivered_in n (encode n s ++ rest) j i ≡ encode n (deliver_to s j i) ++ rest
      go [] e = true_false_absurd (nil_empty (s.chan i j) e) h
      go (x ∷ xs) e = delivered_full x xs e few
