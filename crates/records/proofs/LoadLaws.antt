-- A loop that loads 64 cells from a place of a memory, and a record copied from place to place.
use Prim.Native.Nat.{ℕ, suc, ◌+◌, ◌-◌, ◌≤◌, ◌<◌}
use native.Mathlib.Omega.{arith}
use native.Mathlib.Nat.{zero-add}
use native.Mathlib.Numerals.{add-one}
use mathlib.Core.Path.{◌≡◌, refl, sym, ◌∙◌}
use mathlib.Core.List.{List, ◌∷◌, ◌++◌, append_assoc}
use lib.ListN.{length, get_or, drop}
use lib.Seq.{ext_get_or, drop-cons, drop-drop}
use borrow.Rule.Slice.PartMut.{put_mid}
use Rattle.std.specs.List.{copy_within}
use Rattle.laws.specs.Memory.{put, part}
use Rattle.laws.proofs.PartLaws.{part_byte, part_length}
use Rattle.records.specs.Records.{moved}

-- The first t cells are those of the memory from a place on.
pub record CellsCopied (m : List ℕ) (at : ℕ) (cells : List ℕ) (t : ℕ) : Type 0 where
  pub long : length cells ≡ 64
  pub copied : (p : ℕ) → p < t → get_or cells p 0 ≡ get_or m (at + p) 0

module _ (m : List ℕ) (at : ℕ) where
  pub copied_start : (cells : List ℕ) → length cells ≡ 64 → CellsCopied m at cells 0
  copied_start cells e = record { long = e; copied = λ p l. absurd (omega arith) }

  pub copied_end : (cells : List ℕ) (t : ℕ) → 64 ≤ t → at + 64 ≤ length m → CellsCopied m at cells t → cells ≡ part m at 64
  copied_end cells t l s h =
      ext_get_or 0 cells (part m at 64) (h.long ∙ sym (part_length m at 64 s))
      (λ i k. h.copied i (omega (arith, h.long)) ∙ sym (part_byte m at 64 i (omega (arith, h.long))))

-- A part is its first number and the part behind it.
pub part_first : (m : List ℕ) (at k : ℕ) → at < length m → get_or m at 0 ∷ part m (at + 1) k ≡ part m at (suc k)
unfolding part
part_first m at k l = rw (add-one, drop-cons m at 0 l) refl

-- A part that is written is a block stored, and a part copied within a memory is that part moved.
pub stored_is : (m xs ys : List ℕ) (at k : ℕ) → k ≡ length xs → ys ≡ xs → put_mid at k m ys ≡ put m at xs
unfolding put
stored_is m xs ys at k e f = rw (e, f, drop-drop (length xs) at m) refl

pub stored_first : (m xs ys : List ℕ) → ys ≡ xs → ys ++ drop (length xs) m ≡ put m 0 xs
unfolding put
stored_first m xs ys f = rw (f, zero-add) refl

pub moved_is : (m m' : List ℕ) (from to : ℕ) → from + 65 ≤ length m → m' ≡ copy_within m from (from + 65) to → m' ≡ moved m from to
unfolding moved put part
moved_is m m' from to l e =
    let n : from + 65 - from ≡ 65 = omega arith in
    rw (part_length m from 65 l) (rw (n, append_assoc) at e)
