-- Rows and shapes that are answered.
use Prim.Native.Nat.{ℕ, ◌+◌, ◌-◌, ◌*◌, ◌≤◌, ◌<◌}
use native.Mathlib.Omega.{arith}
use mathlib.Core.Path.{◌≡◌, refl, sym, ap, ◌∙◌}
use mathlib.Core.List.{List}
use borrow.Rule.Slice.PartMut.{put_mid}
use lib.ListN.{length, take, drop, length-take}
use lib.Seq.{length-take-le}
use Rattle.laws.specs.Memory.{part}
use Rattle.laws.proofs.PutLaws.{put_front}
use Rattle.laws.proofs.PartLaws.{part_length}
use Rattle.reporting.specs.Put.{PutAt}
use Rattle.reporting.proofs.ReportLaws.{part_put}
use Rattle.reporting.proofs.LinesLaws.{put_keeps, lines_start, lines_low, lines_more}
use Rattle.map_reader.specs.declared.rows.Shape.{Shape}
use Rattle.map_reader.specs.Told.{rows_in}
use Rattle.map_reader.specs.Inner.{RowCopied, RowsRead, RowsIn}

-- A row copied to a part of its length.
pub row_copied : (text old moved : List ℕ) (at w base : ℕ) → at + w < length text → moved ≡ take (at + w - at) (drop at text)
    → RowCopied text at w old base (put_mid base (base + w - base) old moved) (at + w + 1)
unfolding part
row_copied text old moved at w base l e =
    let size : at + w - at ≡ w = omega arith in
    record {
      next = refl;
      within = omega arith;
      puts = part_put old (part text at w) moved base w (e ∙ ap (λ (k : ℕ). take k (drop at text)) size)
          (sym (part_length text at w (omega arith)));
    }

-- The column behind a row lies behind it, and not behind the text.
pub next_within : {text old new : List ℕ} {at w base n : ℕ} → RowCopied text at w old base new n → (at < n) × (n ≤ length text)
next_within p = (omega (arith, p.next), p.within)

-- A loop that reads rows: before the first, its length, one more.
module _ (text old : List ℕ) (first w : ℕ) (narrow : w ≤ 32) where
  line : ℕ → List ℕ
  line row = part text (first + row * (w + 1)) w

  short : (n : ℕ) → length (line n) ≤ 32
  unfolding line part
  short n = omega (arith, length-take w (drop (first + n * (w + 1)) text))

  pub rows_start : PutAt (rows_in text first w 0) old 0 old 0
  unfolding rows_in line
  rows_start = lines_start line 32 short old 0

  pub rows_keeps : (h n : ℕ) (mid : List ℕ) → PutAt (rows_in text first w h) old 0 mid n → h ≤ 32 → 1024 ≤ length old →
      length mid ≡ length old
  unfolding rows_in line
  rows_keeps h n mid e l enough = put_keeps e (omega (arith, lines_low line 32 short old 0 h n mid e))

  pub rows_more : (h at n next : ℕ) (mid new : List ℕ) → PutAt (rows_in text first w h) old 0 mid n → at ≡ first + h * (w + 1) → h < 32 →
      1024 ≤ length old → RowCopied text at w mid n new next →
      PutAt (rows_in text first w (h + 1)) old 0 new (n + w) × (next ≡ first + (h + 1) * (w + 1))
  unfolding rows_in line
  rows_more h at n next mid new e s l enough p =
      let here : PutAt (line h) mid n new (n + w) = rw (← s) p.puts in
      (lines_more line 32 short old 0 h n mid e (n + w) new here (omega arith), omega (arith, p.next))

-- The marks in front of a memory of 1,024 are those of the rows.
pub rows_in_lem : (text old marks : List ℕ) (first : ℕ) (x : Shape) → RowsRead text first old marks x → 1024 ≡ length old
    → RowsIn text (take x.cells marks) x
rows_in_lem text old marks first x r e =
    let front = put_front old marks (rows_in text first x.width x.height) x.cells r.puts.bytes (omega (arith, r.puts.behind))
    (omega (arith, r.puts.behind, r.few)) in
    record {
      first = first;
      some = r.some;
      width = r.width;
      height = r.height;
      few = omega (arith, length-take-le x.cells marks front.0, r.few);
      next = r.next;
      rows = front.1;
    }
