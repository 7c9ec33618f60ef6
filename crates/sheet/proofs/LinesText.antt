-- Lines one behind the other, read and written.
use Prim.Native.Nat.{ℕ, zero, suc, ◌+◌, ◌<◌}
use native.Mathlib.Omega.{arith}
use borrow.Author.Count.{below_more}
use mathlib.Core.Path.{◌≡◌, refl, ap₂}
use mathlib.Core.List.{List, [], ◌++◌, append-nil, append_assoc}
use lib.ListN.{length, length-append}
use Rattle.sheet.specs.Text.{lines_of}
use Rattle.sheet.proofs.LineLaws.{lines_span}
use Rattle.laws.specs.Memory.{part}
use Rattle.laws.proofs.PartLaws.{part_none, part_split, part_blocks}

-- Lines that agree make the same text.
pub lines_same : (line line' : ℕ → List ℕ) (k : ℕ) → ((i : ℕ) → i < k → line i ≡ line' i) → lines_of line k ≡ lines_of line' k
unfolding lines_of
lines_same line line' zero h = refl
lines_same line line' (suc k) h = rw (lines_same line line' k (λ i l. h i (omega arith)), h k (omega arith))

-- No line, and the first line with the others.
pub lines_none : (line : ℕ → List ℕ) → lines_of line 0 ≡ []
unfolding lines_of
lines_none line = refl

pub lines_front : (line : ℕ → List ℕ) (k : ℕ) → lines_of line (suc k) ≡ line 0 ++ lines_of (λ (i : ℕ). line (suc i)) k
unfolding lines_of
lines_front line zero = rw append-nil
lines_front line (suc k) = rw (lines_front line k, append_assoc)

module _ (text : List ℕ) (line : ℕ → List ℕ) (at : ℕ → ℕ) (behind : (i : ℕ) → at (suc i) ≡ at i + length (line i)) where
  -- Parts one behind the other are the lines that they are one by one.
  pub parts_lines : (k : ℕ) → ((i : ℕ) → i < k → part text (at i) (length (line i)) ≡ line i)
      → part text (at 0) (length (lines_of line k)) ≡ lines_of line k
  unfolding lines_of
  parts_lines zero h = part_none text (at 0)
  parts_lines (suc k) h =
      rw (length-append, part_split text (at 0) (length (lines_of line k)) (length (line k)), lines_span line at behind k)
      (ap₂ (λ (xs ys : List ℕ). xs ++ ys) (parts_lines k (λ i l. h i (omega arith))) (h k (omega arith)))

  -- The text of lines, line by line.
  pub lines_parts : ((i : ℕ) → 0 < length (line i)) → (k : ℕ) → part text (at 0) (length (lines_of line k)) ≡ lines_of line k
      → (i : ℕ) → i < k → part text (at i) (length (line i)) ≡ line i
  unfolding lines_of
  lines_parts some zero e i l = absurd (omega arith)
  lines_parts some (suc k) e i l =
      let d =
      part_blocks text (lines_of line k) (line k) (at 0) (length (lines_of line k)) (length (line k)) refl refl
      (omega (arith, some k)) (rw length-append at e)
      in
      below_more (λ (j : ℕ). part text (at j) (length (line j)) ≡ line j) k (lines_parts some k d.0)
      (rw (lines_span line at behind k) at d.1) i (omega arith)
