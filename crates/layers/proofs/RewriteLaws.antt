-- Rows of a table that are rewritten at once.
use Prim.Native.Nat.{ℕ, ◌+◌, ◌≤◌}
use native.Mathlib.Omega.{arith}
use mathlib.Core.List.{List}
use mathlib.Core.Path.{◌≡◌, refl, ◌∙◌}
use lib.ListN.{length, take, drop, replicate, length-replicate, length-drop}
use lib.Seq.{length-take-le}
use borrow.Rule.Slice.PartMut.{put_mid}
use Rattle.laws.proofs.Lists.{zeros_at}
use Rattle.bitrows.specs.Rows.{written, filled}
use Rattle.bitrows.proofs.FillLaws.{length_written, written_in, written_out, written_copied, filled_in}
use Rattle.layers.specs.Table.{Rewritten}

-- The first n of some rows, made as φ says and written from row i on.
pub rewritten_rows : (words rows after : List ℕ) (φ : ℕ → ℕ) (i n : ℕ) → n ≤ 32 → i + n ≤ length words →
    rows ≡ filled (replicate 32 0) φ n → after ≡ written words i rows n → Rewritten words φ i n after
rewritten_rows words rows after φ i n few fits e h =
    rw (h, e)
    (record {
      long = length_written words i (filled (replicate 32 0) φ n) n;
      inside = λ j l. written_in words i (filled (replicate 32 0) φ n) n j fits l
          ∙ filled_in (replicate 32 0) φ n j (omega (arith, length-replicate {A = ℕ} 32 0)) l;
      outside = λ j l. written_out words i (filled (replicate 32 0) φ n) n j l;
    })

-- Empty rows.
pub rewritten_zeros : (words after : List ℕ) (i : ℕ) → i + 32 ≤ length words → after ≡ written words i (replicate 32 0) 32 →
    Rewritten words (λ j. 0) i 32 after
rewritten_zeros words after i fits h =
    rw h
    (record {
      long = length_written words i (replicate 32 0) 32;
      inside = λ j l. written_in words i (replicate 32 0) 32 j fits l ∙ zeros_at 32 j;
      outside = λ j l. written_out words i (replicate 32 0) 32 j l;
    })

-- Rows filled with zeros are empty rows written.
pub zeros_filled : (words ys : List ℕ) (i k : ℕ) → i + 32 ≤ length words → k ≡ 32 →
    ys ≡ replicate (length (take k (drop i words))) 0 → put_mid i k words ys ≡ written words i (replicate 32 0) 32
zeros_filled words ys i k fits e h =
    let size : length (take 32 (drop i words)) ≡ 32 = length-take-le 32 (drop i words) (omega (arith, length-drop i words)) in
    written_copied words i (replicate 32 0) ys 32 k fits (omega arith) e (rw (e, size) at h)

-- No row yet.
pub rewritten_none : (words : List ℕ) (φ : ℕ → ℕ) (i : ℕ) → Rewritten words φ i 0 words
rewritten_none words φ i = record { long = refl; inside = λ j l. absurd (omega arith); outside = λ j l. refl }
