-- Laws of lines and columns, and of a position in words.
use Prim.Native.Nat.{ℕ, ◌+◌, ◌≤◌}
use native.Mathlib.Omega.{arith}
use native.Mathlib.Numerals.{add-one}
use mathlib.Core.List.{List}
use mathlib.Core.Path.{◌≡◌, refl, ◌∙◌}
use lib.ListN.{length, get_or, length-append}
use Rattle.reporting.specs.Put.{PutAt}
use Rattle.reporting.proofs.ReportLaws.{put_behind}
use Rattle.wording.specs.Decimal.{decimal}
use Rattle.wording.proofs.DecimalLaws.{decimal_short}
use Rattle.positions.specs.declared.position.LineColumn.{LineColumn}
use Rattle.positions.specs.Position.{line_at, column_at, line_word, column_word, colon, position_text}
use Rattle.positions.specs.Inner.{Follows, StandsIn}

-- A loop over the bytes before one: in front of the text, and behind one more byte.
pub position_start : (text : List ℕ) → StandsIn text 0 (record { line = 1; column = 1 })
unfolding line_at column_at
position_start text = record { line = refl; column = refl; low_line = omega arith; low_column = omega arith }

pub position_more : {text : List ℕ} {k byte : ℕ} {x y : LineColumn} → StandsIn text k x → byte ≡ get_or text k 0 → Follows byte x y →
    StandsIn text (k + 1) y
unfolding line_at column_at
position_more {text} {k} {byte} {x} {y} old e new =
    rw add-one
    (record {
      line = new.line ∙ rw (e, old.line);
      column = new.column ∙ rw (e, old.column);
      low_line = omega (arith, new.low_line, old.low_line);
      low_column = omega (arith, new.low_column, old.low_column);
    })

-- The words of a position, put piece by piece.
pub position_put : (line column n₁ n₂ n₃ n₄ n : ℕ) (old m₁ m₂ m₃ m₄ new : List ℕ) → PutAt line_word old 0 m₁ n₁ →
    PutAt (decimal line) m₁ n₁ m₂ n₂
    → PutAt column_word m₂ n₂ m₃ n₃ → PutAt (decimal column) m₃ n₃ m₄ n₄ → PutAt colon m₄ n₄ new n → 26 ≤ length old
    → PutAt (position_text line column) old 0 new n
unfolding position_text line_word column_word colon
position_put line column n₁ n₂ n₃ n₄ n old m₁ m₂ m₃ m₄ new p q r s t l =
    let x = decimal_short line in
    let y = decimal_short column in
    let first = put_behind p q (omega (arith, p.behind, q.behind)) in
    let second = put_behind first r (omega (arith, p.behind, q.behind, r.behind)) in
    let third = put_behind second s (omega (arith, p.behind, q.behind, r.behind, s.behind)) in
    put_behind third t (omega (arith, p.behind, q.behind, r.behind, s.behind, t.behind))

pub position_short : (line column : ℕ) → length (position_text line column) ≤ 26
unfolding position_text line_word column_word colon
position_short line column =
    rw (length-append, length-append, length-append, length-append) (omega (arith, decimal_short line, decimal_short column))

pub position_low : (line column : ℕ) (old new : List ℕ) (n : ℕ) → PutAt (position_text line column) old 0 new n → n ≤ 26
position_low line column old new n p = omega (arith, p.behind, position_short line column)
