-- A part of a memory that holds a row of records: its views are those of the memory.
use Prim.Native.Nat.{ℕ, ◌+◌, ◌*◌, ◌≤◌, ◌<◌}
use native.Mathlib.Omega.{arith}
use mathlib.Core.List.{List}
use mathlib.Core.Path.{◌≡◌, refl, sym, ◌∙◌, ap, ap₂}
use lib.ListN.{length, get_or}
use lib.Seq.{ext_get_or}
use Rattle.laws.specs.Memory.{part}
use Rattle.laws.proofs.PartLaws.{part_byte, part_length}
use Rattle.records.specs.Records.{view_of, record_at, view_at}

-- A part of a part.
pub part_part : (m : List ℕ) (a n k p : ℕ) → a + n ≤ length m → k + p ≤ n → part (part m a n) k p ≡ part m (a + k) p
part_part m a n k p h s =
    ext_get_or 0 (part (part m a n) k p) (part m (a + k) p)
    (part_length (part m a n) k p (omega (arith, part_length m a n h)) ∙ sym (part_length m (a + k) p (omega arith)))
    (λ i b. go i (omega (arith, part_length (part m a n) k p (omega (arith, part_length m a n h)))))
  where
    go : (i : ℕ) → i < p → get_or (part (part m a n) k p) i 0 ≡ get_or (part m (a + k) p) i 0
    go i b =
        let sum : a + (k + i) ≡ a + k + i = omega arith in
        part_byte (part m a n) k p i b ∙ part_byte m a n (k + i) (omega arith) ∙ rw sum refl ∙ sym (part_byte m (a + k) p i b)

-- The view in record j of a part.
pub view_part : (m : List ℕ) (a i j : ℕ) → j < i → a + 65 * i ≤ length m → view_at (part m a (65 * i)) j ≡ record_at m (a + 65 * j)
unfolding view_at record_at
view_part m a i j l h =
    let sum : a + (65 * j + 1) ≡ a + 65 * j + 1 = omega arith in
    ap₂ view_of (part_byte m a (65 * i) (65 * j) (omega arith))
    (part_part m a (65 * i) (65 * j + 1) 64 h (omega arith) ∙ ap (λ (k : ℕ). part m k 64) sum)
