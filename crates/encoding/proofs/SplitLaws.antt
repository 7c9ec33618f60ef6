-- Where each block of an encoding stands: blocks one behind the other, blocks of pairs, and the four kinds of blocks of a state.
use Prim.Native.Nat.{ℕ, zero, suc, ◌+◌, ◌*◌, ◌<◌}
use native.Mathlib.Omega.{arith}
use native.Mathlib.Nat.{eq-or-lt_of_le}
use mathlib.Core.Path.{◌≡◌, refl, sym, ◌∙◌, ap}
use mathlib.Core.List.{List, [], ◌∷◌}
use mathlib.Core.Logic.{⊎_elim}
use lib.ListN.{length, length-append}
use Rattle.route.specs.Route.{Answer, unheard, heard}
use Rattle.records.specs.Records.{slot}
use Rattle.records.proofs.SlotLaws.{slot_length}
use Rattle.reference.specs.State.{State}
use Rattle.encoding.specs.Places.{pairs_before}
use Rattle.encoding.specs.Encode.{slots, channel_block, carrier_block, count_block, blocks, pairs}
use Rattle.encoding.proofs.WindowLaws.{Window, window_whole, window_front, window_behind, window_inside}

-- Blocks depend on their function below their number only.
pub blocks_same : (n : ℕ) (φ ψ : ℕ → List ℕ) → ((i : ℕ) → i < n → φ i ≡ ψ i) → blocks n φ ≡ blocks n ψ
unfolding blocks
blocks_same zero φ ψ h = refl
blocks_same (suc n) φ ψ h = rw (blocks_same n φ ψ (λ i l. h i (omega arith)), h n (omega arith))

-- Where the lengths of the blocks add up to `at`, that is their length, and block k stands at its place.
module _ (at : ℕ → ℕ) (none : at 0 ≡ 0) where
  pub blocks_length : (n : ℕ) (φ : ℕ → List ℕ) → ((i : ℕ) → i < n → at (suc i) ≡ at i + length (φ i)) → length (blocks n φ) ≡ at n
  unfolding blocks
  blocks_length zero φ h = sym none
  blocks_length (suc n) φ h =
      length-append (blocks n φ) (φ n) ∙ omega (arith, blocks_length n φ (λ i l. h i (omega arith)), h n (omega arith))

  pub blocks_window : (n : ℕ) (φ ψ : ℕ → List ℕ) (k : ℕ) → k < n → ((i : ℕ) → i < n → at (suc i) ≡ at i + length (φ i)) →
      ((i : ℕ) → i < n → (i ≡ k → ⊥) → φ i ≡ ψ i) → Window (at k) (blocks n φ) (blocks n ψ) (φ k) (ψ k)
  unfolding blocks
  blocks_window zero φ ψ k l h e = absurd (omega arith)
  blocks_window (suc n) φ ψ k l h e =
      ⊎_elim
      (λ (q : k ≡ n).
      let same : blocks n ψ ≡ blocks n φ = sym (blocks_same n φ ψ (λ i a. e i (omega arith) (λ r. omega arith))) in
      rw (same, q)
      (window_behind (blocks n φ) (at n) (at n) (blocks_length n φ (λ i a. h i (omega arith))) (omega arith) (window_whole (φ n) (ψ n))))
      (λ (q : k < n).
      rw (sym (e n (omega arith) (λ r. omega arith)))
      (window_front (φ n) (blocks_window n φ ψ k q (λ i a. h i (omega arith)) (λ i a. e i (omega arith)))))
      (eq-or-lt_of_le (omega arith))

-- Blocks of pairs, each w long.
module _ (w n : ℕ) (φ : ℕ → ℕ → List ℕ) (long : (i j : ℕ) → j < i → i < n → length (φ i j) ≡ w) where
  row_sums : (i : ℕ) → i < n → (j : ℕ) → j < i → w * suc j ≡ w * j + length (φ i j)
  row_sums i a j b = omega (arith, long i j b a)

  row_length : (i : ℕ) → i < n → length (blocks i (φ i)) ≡ w * i
  row_length i a = blocks_length (λ k. w * k) (omega arith) i (φ i) (row_sums i a)

  pair_sums : (i : ℕ) → i < n → w * pairs_before (suc i) ≡ w * pairs_before i + length (blocks i (φ i))
  unfolding pairs_before
  pair_sums i a = omega (arith, row_length i a)

  pub pairs_length : length (pairs n φ) ≡ w * pairs_before n
  unfolding pairs pairs_before
  pairs_length = blocks_length (λ k. w * pairs_before k) (omega arith) n (λ i. blocks i (φ i)) pair_sums

  pub pairs_window : (ψ : ℕ → ℕ → List ℕ) (i j : ℕ) → j < i → i < n →
      ((k j' : ℕ) → j' < k → k < n → (k ≡ i → j' ≡ j → ⊥) → φ k j' ≡ ψ k j') →
      Window (w * (pairs_before i + j)) (pairs n φ) (pairs n ψ) (φ i j) (ψ i j)
  unfolding pairs pairs_before
  pairs_window ψ i j a b e =
      window_inside (w * (pairs_before i + j)) (omega arith)
      (blocks_window (λ k. w * pairs_before k) (omega arith) n (λ k. blocks k (φ k)) (λ k. blocks k (ψ k)) i b pair_sums
      (λ k j' q. blocks_same k (φ k) (ψ k) (λ x y. e k x y j' (λ u v. q u))))
      (blocks_window (λ k. w * k) (omega arith) i (φ i) (ψ i) j a (row_sums i b) (λ j' x y. e i j' x b (λ u v. y v)))

pub slots_length : (k : ℕ) (xs : List Answer) → length (slots k xs) ≡ 65 * k
unfolding slots
slots_length zero xs = refl
slots_length (suc k) [] = length-append (slot unheard) (slots k []) ∙ omega (arith, slot_length unheard, slots_length k [])
slots_length (suc k) (x ∷ xs) = length-append (slot (heard x)) (slots k xs) ∙ omega (arith, slot_length (heard x), slots_length k xs)

pub channel_length : (xs : List Answer) → length (channel_block xs) ≡ 261
unfolding channel_block
channel_length xs = ap suc (slots_length 4 xs)

pub carrier_length : (s : State) (i : ℕ) → length (carrier_block s i) ≡ 67
unfolding carrier_block
carrier_length s i = ap (λ (k : ℕ). suc (suc k)) (slot_length (heard (s.answer i)))

pub count_length : (t : ℕ) → length (count_block t) ≡ 2
unfolding count_block
count_length t = refl
