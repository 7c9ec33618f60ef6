-- The loops of a drawing: the carriers in a cell, and the bytes one behind the other.
use Prim.Native.Nat.{ℕ, zero, suc, ◌+◌, ◌*◌, ◌/◌, ◌%◌, ◌≤◌, ◌<◌}
use native.Mathlib.Omega.{arith}
use native.Mathlib.Numerals.{add-one}
use native.Mathlib.Nat.{zero-add, mul-le-mul, div-le_self, mod-lt}
use mathlib.Core.Path.{◌≡◌, refl, ap, ◌∙◌}
use mathlib.Core.List.{List, [], ◌∷◌}
use borrow.Author.Tests.{eq-eqb, ne_eqb}
use lib.ListN.{length, get_or, set, length-append}
use Rattle.laws.specs.Memory.{put}
use Rattle.laws.proofs.PutLaws.{put_none, put_length, put_next, put_one}
use Rattle.floor.specs.declared.Floor.{Floor}
use Rattle.drawing.specs.Drawing.{mark_with, carrier_mark, drawn_byte, drawn_bytes, drawn_floor}

module _ (places : List ℕ) (c : ℕ) where
  pub mark_start : 46 ≡ carrier_mark places c 0
  unfolding carrier_mark
  mark_start = refl

  pub mark_there : (k n : ℕ) → n ≡ carrier_mark places c k → get_or places k 0 ≡ c → mark_with n k ≡ carrier_mark places c (k + 1)
  unfolding carrier_mark
  mark_there k n e h = rw (add-one, carrier_mark) (rw (eq-eqb _ _ h, e))

  pub mark_away : (k n : ℕ) → n ≡ carrier_mark places c k → (get_or places k 0 ≡ c → ⊥) → n ≡ carrier_mark places c (k + 1)
  unfolding carrier_mark
  mark_away k n e h = rw (add-one, carrier_mark) (rw (ne_eqb _ _ h) e)

  pub mark_end : (k n : ℕ) → n ≡ carrier_mark places c k → k ≤ 8 → 8 ≤ k → n ≡ carrier_mark places c 8
  mark_end k n e a b = let same : k ≡ 8 = omega arith in rw same at e

module _ (f : Floor) (ws places : List ℕ) where
  -- A drawing has as many bytes as it is asked for.
  pub bytes_length : (n : ℕ) → length (drawn_bytes f ws places n) ≡ n
  unfolding drawn_bytes
  bytes_length zero = refl
  bytes_length (suc n) = length-append (drawn_bytes f ws places n) _ ∙ omega (arith, bytes_length n)

  -- A loop that puts the bytes: before the first, one more, and that the memory keeps its length.
  pub bytes_start : (old : List ℕ) → old ≡ put old 0 (drawn_bytes f ws places 0)
  unfolding drawn_bytes
  bytes_start old = put_none old 0

  pub bytes_keep : (old new : List ℕ) (k : ℕ) → new ≡ put old 0 (drawn_bytes f ws places k) → k ≤ length old → length new ≡ length old
  bytes_keep old new k e l = ap length e ∙ put_length old _ 0 (omega (arith, bytes_length k))

  pub bytes_more : (old new : List ℕ) (k x : ℕ) → new ≡ put old 0 (drawn_bytes f ws places k) → k < length old → x ≡ drawn_byte f ws places k
      → set new k x ≡ put old 0 (drawn_bytes f ws places (k + 1))
  unfolding drawn_bytes
  bytes_more old new k x e l h =
      let long = bytes_keep old new k e (omega arith) in
      rw (add-one, drawn_bytes)
      (put_next old new (set new k x) (drawn_bytes f ws places k) (drawn_byte f ws places k ∷ []) 0 k e
      (rw (← h) (put_one new k x (omega arith))) (zero-add _ ∙ bytes_length k) (omega arith))

  pub bytes_end : (old new : List ℕ) (k n : ℕ) → new ≡ put old 0 (drawn_bytes f ws places k) → k ≤ n → n ≤ k → n ≡ (f.width + 1) * f.height
      → new ≡ put old 0 (drawn_floor f ws places)
  unfolding drawn_floor
  bytes_end old new k n e a b s = let same : k ≡ (f.width + 1) * f.height = omega arith in rw same at e

-- A cell number in a drawing fits its type.
pub record LowCell (w k : ℕ) : Type 0 where
  pub row : k / (w + 1) * w ≤ 33792
  pub column : k % (w + 1) ≤ w
  pub narrow : w ≤ 32

pub low_cell : (w k : ℕ) → w ≤ 32 → k ≤ 1056 → LowCell w k
low_cell w k l h =
    let below = mod-lt k {m = w + 1} (omega arith) in
    record { row = omega (arith, mul-le-mul (div-le_self k (w + 1)) l); column = omega arith; narrow = l }

pub grid_low : (w h : ℕ) → w ≤ 32 → h ≤ 32 → (w + 1) * h ≤ 1056
grid_low w h l k =
    let wide : w + 1 ≤ 33 = omega arith in
    omega (arith, mul-le-mul wide k)
