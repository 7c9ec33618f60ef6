-- Five bytes of a text, and five that are stored into one: a part of it, and a block.
use Prim.Native.Nat.{ℕ, zero, suc, ◌<◌, ◌+◌, ◌-◌, ◌≤◌}
use native.Mathlib.Omega.{arith}
use mathlib.Core.Path.{◌≡◌, refl, ◌∙◌}
use mathlib.Core.List.{List, [], ◌∷◌}
use borrow.Rule.Slice.PartMut.{put_mid}
use lib.ListN.{length, get_or, set, take, drop}
use Rattle.std.proofs.Math.ListN.{drop_of_length-le}
use Rattle.laws.specs.Memory.{put, part}
use lib.Seq.{drop-drop}
use Rattle.laws.proofs.PartLaws.{part_is, part_length}
use Rattle.laws.proofs.PutLaws.{put_five}

-- What is copied into a part of a memory is a block there.
pub put_copied : (m xs ys : List ℕ) (at n : ℕ) → ys ≡ xs → length xs ≡ n → put_mid at (at + n - at) m ys ≡ put m at xs
unfolding put
put_copied m xs ys at n e l =
    let q : at + n - at ≡ length xs = omega (arith, l) in
    rw (q, e, drop-drop (length xs) at m)

-- Five bytes stored into a part of five are those bytes.
set_five : (ys : List ℕ) (x₁ x₂ x₃ x₄ x₅ : ℕ) → length ys ≡ 5
    → set (set (set (set (set ys 0 x₁) 1 x₂) 2 x₃) 3 x₄) 4 x₅ ≡ x₁ ∷ x₂ ∷ x₃ ∷ x₄ ∷ x₅ ∷ []
unfolding put
set_five ys x₁ x₂ x₃ x₄ x₅ l =
    put_five ys 0 x₁ x₂ x₃ x₄ x₅ (omega (arith, l)) ∙ rw (drop_of_length-le ys {i = 5} (omega (arith, l))) refl

-- Five bytes stored into a part of a memory are a block there.
pub put_stored : (m : List ℕ) (at x₁ x₂ x₃ x₄ x₅ : ℕ) → at + 5 ≤ length m
    → put_mid at (at + 5 - at) m (set (set (set (set (set (take (at + 5 - at) (drop at m)) 0 x₁) 1 x₂) 2 x₃) 3 x₄) 4 x₅)
    ≡ put m at (x₁ ∷ x₂ ∷ x₃ ∷ x₄ ∷ x₅ ∷ [])
unfolding part
put_stored m at x₁ x₂ x₃ x₄ x₅ l =
    let q : at + 5 - at ≡ 5 = omega arith in
    let five : length (take (at + 5 - at) (drop at m)) ≡ 5 = rw q (part_length m at 5 l) in
    put_copied m _ _ at 5 (set_five _ x₁ x₂ x₃ x₄ x₅ five) refl

-- The five bytes from a column on.
module _ (text : List ℕ) (at : ℕ) where
  abbrev five : List ℕ
  five = get_or text at 0 ∷ get_or text (at + 1) 0 ∷ get_or text (at + 2) 0 ∷ get_or text (at + 3) 0 ∷ get_or text (at + 4) 0 ∷ []

  pub five_bytes : at + 5 ≤ length text → take (at + 5 - at) (drop at text) ≡ five
  unfolding part
  five_bytes l = let q : at + 5 - at ≡ 5 = omega arith in rw q (part_is text at 5 five l refl byte)
    where
      byte : (i : ℕ) → i < 5 → get_or text (at + i) 0 ≡ get_or five i 0
      byte zero h = let e : at + 0 ≡ at = omega arith in rw e
      byte (suc zero) h = refl
      byte (suc (suc zero)) h = refl
      byte (suc (suc (suc zero))) h = refl
      byte (suc (suc (suc (suc zero)))) h = refl
      byte (suc (suc (suc (suc (suc i))))) h = absurd (omega arith)
