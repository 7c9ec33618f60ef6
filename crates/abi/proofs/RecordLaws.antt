-- Laws of a floor record as numbers in a list.
use Prim.Native.Nat.{ℕ, ◌+◌, ◌-◌, ◌≤◌}
use native.Mathlib.Omega.{arith}
use mathlib.Core.Path.{◌≡◌, refl, ◌∙◌, ap}
use mathlib.Core.List.{List, ◌++◌, append_assoc}
use lib.ListN.{length, take, drop, length-append}
use lib.Seq.{take_at, drop_at}
use Rattle.laws.specs.Memory.{part, put}
use Rattle.laws.proofs.PutLaws.{put_next}
use Rattle.floor.specs.declared.Floor.{Floor}
use Rattle.abi.specs.Record.{floor_of, numbers_of}

-- The part that a slice from a place to another is.
pub part_taken : (xs : List ℕ) (at n : ℕ) → take (at + n - at) (drop at xs) ≡ part xs at n
unfolding part
part_taken xs at n = let q : at + n - at ≡ n = omega arith in rw q

-- Four blocks of 6, 8, 8 and 32 numbers, one behind the other.
pub four_blocks : (m m₁ m₂ m₃ m₄ xs₁ xs₂ xs₃ xs₄ : List ℕ) → m₁ ≡ put m 0 xs₁ → m₂ ≡ put m₁ 6 xs₂ → m₃ ≡ put m₂ 14 xs₃ → m₄ ≡ put m₃ 22 xs₄
    → length xs₁ ≡ 6 → length xs₂ ≡ 8 → length xs₃ ≡ 8 → length xs₄ ≡ 32 → 54 ≤ length m → m₄ ≡ put m 0 (xs₁ ++ (xs₂ ++ (xs₃ ++ xs₄)))
four_blocks m m₁ m₂ m₃ m₄ xs₁ xs₂ xs₃ xs₄ e f g h la lb lc ld l =
    let two : m₂ ≡ put m 0 (xs₁ ++ xs₂) = put_next m m₁ m₂ xs₁ xs₂ 0 6 e f (omega arith) (omega arith) in
    let size : length (xs₁ ++ xs₂) ≡ 14 = length-append xs₁ xs₂ ∙ omega arith in
    let three : m₃ ≡ put m 0 ((xs₁ ++ xs₂) ++ xs₃) = put_next m m₂ m₃ (xs₁ ++ xs₂) xs₃ 0 14 two g (omega arith) (omega arith) in
    let long : length ((xs₁ ++ xs₂) ++ xs₃) ≡ 22 = length-append (xs₁ ++ xs₂) xs₃ ∙ omega arith in
    put_next m m₃ m₄ ((xs₁ ++ xs₂) ++ xs₃) xs₄ 0 22 three h (omega arith) (omega arith) ∙ ap (put m 0) (simp append_assoc)

-- A block that stands behind others.
module _ (xs ys zs r : List ℕ) (la : length xs ≡ 8) (lb : length ys ≡ 8) (lc : length zs ≡ 32) where
  first_block : take 8 ((xs ++ (ys ++ zs)) ++ r) ≡ xs
  first_block = simp append_assoc (take_at xs (ys ++ (zs ++ r)) 8 la)

  second_block : take 8 (drop 8 ((xs ++ (ys ++ zs)) ++ r)) ≡ ys
  second_block = simp append_assoc (rw (drop_at xs (ys ++ (zs ++ r)) 8 la) (take_at ys (zs ++ r) 8 lb))

  third_block : take 32 (drop 16 ((xs ++ (ys ++ zs)) ++ r)) ≡ zs
  third_block =
      let joined : (xs ++ (ys ++ zs)) ++ r ≡ (xs ++ ys) ++ (zs ++ r) = simp append_assoc in
      let size : length (xs ++ ys) ≡ 16 = length-append xs ys ∙ omega arith in
      rw (joined, drop_at (xs ++ ys) (zs ++ r) 16 size) (take_at zs r 32 lc)

-- The floor that its own numbers say, whatever memory they stand in.
pub record_same : (f : Floor) (old : List ℕ) → length f.starts ≡ 8 → length f.counts ≡ 8 → length f.docks ≡ 32
    → floor_of (put old 0 (numbers_of f)) ≡ f
unfolding floor_of numbers_of put part
record_same f old ls lc ld =
    let rest = drop (0 + length (numbers_of f)) old in
    rw (
      first_block f.starts f.counts f.docks rest ls lc ld,
      second_block f.starts f.counts f.docks rest ls lc ld,
      third_block f.starts f.counts f.docks rest ls lc ld,
    ) refl
