-- Blocks that are parts of a memory, one behind the other, are one part of it.
use Prim.Native.Nat.{ℕ, zero, suc, ◌+◌, ◌*◌, ◌≤◌, ◌<◌}
use native.Mathlib.Omega.{arith}
use native.Mathlib.Nat.{add-zero, eq-or-lt_of_le}
use mathlib.Core.List.{List, [], ◌∷◌, ◌++◌}
use mathlib.Core.Logic.{⊎_elim}
use mathlib.Core.Path.{◌≡◌, refl, sym, ◌∙◌, ap, ap₂}
use lib.ListN.{length, get_or}
use Rattle.laws.specs.Memory.{part}
use Rattle.laws.proofs.PartLaws.{part_is, part_split, part_none}
use Rattle.encoding.specs.Places.{pairs_before}
use Rattle.encoding.specs.Encode.{blocks, pairs}

-- Parts of any widths that follow each other.
module _ (m : List ℕ) (at : ℕ) (place width : ℕ → ℕ) (none : place 0 ≡ 0) where
  spans_part : (n : ℕ) (φ : ℕ → List ℕ) → ((k : ℕ) → k < n → place (suc k) ≡ place k + width k)
      → ((k : ℕ) → k < n → φ k ≡ part m (at + place k) (width k)) → blocks n φ ≡ part m at (place n)
  unfolding blocks
  spans_part zero φ q h = rw none (sym (part_none m at))
  spans_part (suc n) φ q h =
      ap₂ ◌++◌ (spans_part n φ (λ k l. q k (omega arith)) (λ k l. h k (omega arith))) (h n (omega arith))
      ∙ sym (part_split m at (place n) (width n))
      ∙ ap (part m at) (sym (q n (omega arith)))

module _ (m : List ℕ) (at w : ℕ) where
  -- Parts of one width.
  pub blocks_part : (n : ℕ) (φ : ℕ → List ℕ) → ((k : ℕ) → k < n → φ k ≡ part m (at + w * k) w) → blocks n φ ≡ part m at (w * n)
  blocks_part n φ h = spans_part m at (λ k. w * k) (λ k. w) (omega arith) n φ (λ k l. omega arith) h

-- The pairs of a receiver below n.
pub pairs_part : (m : List ℕ) (at w n : ℕ) (φ : ℕ → ℕ → List ℕ)
    → ((i j : ℕ) → j < i → i < n → φ i j ≡ part m (at + w * (pairs_before i + j)) w) → pairs n φ ≡ part m at (w * pairs_before n)
unfolding pairs pairs_before
pairs_part m at w n φ h =
    spans_part m at (λ i. w * pairs_before i) (λ i. w * i) (omega arith) n (λ i. blocks i (φ i)) (λ i l. omega arith)
    (λ i l. blocks_part m (at + w * pairs_before i) w i (φ i) (λ j a. h i j a l ∙ ap (λ (p : ℕ). part m p w) (omega arith)))

-- The number of a pair is below that of all pairs.
pub pair_below : (n i j : ℕ) → j < i → i < n → pairs_before i + j < pairs_before n
unfolding pairs_before
pair_below zero i j a b = absurd (omega arith)
pair_below (suc n) i j a b =
    ⊎_elim (λ (e : i ≡ n). rw e (omega arith)) (λ (l : i < n). omega (arith, pair_below n i j a l)) (eq-or-lt_of_le (omega arith))

-- A part of one number.
pub part_one : (m : List ℕ) (at : ℕ) → at < length m → part m at 1 ≡ get_or m at 0 ∷ []
part_one m at l = part_is m at 1 (get_or m at 0 ∷ []) (omega arith) refl same
  where
    same : (i : ℕ) → i < 1 → get_or m (at + i) 0 ≡ get_or (get_or m at 0 ∷ []) i 0
    same zero k = rw add-zero
    same (suc i) k = absurd (omega arith)

-- Two numbers, and a part behind them.
pub part_two : (m : List ℕ) (at k : ℕ) → at + 2 ≤ length m
    → part m at (2 + k) ≡ get_or m at 0 ∷ (get_or m (at + 1) 0 ∷ part m (at + 2) k)
part_two m at k l =
    let n : 2 + k ≡ 1 + (1 + k) = omega arith in
    let p : at + 1 + 1 ≡ at + 2 = omega arith in
    let second = part_split m (at + 1) 1 k ∙ ap₂ ◌++◌ (part_one m (at + 1) (omega arith)) (ap (λ (p : ℕ). part m p k) p) in
    ap (part m at) n ∙ part_split m at 1 (1 + k) ∙ ap₂ ◌++◌ (part_one m at (omega arith)) second
