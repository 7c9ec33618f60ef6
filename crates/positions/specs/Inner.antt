-- What the code hands on of lines and columns. Nothing claimed rests on this.
use Rattle.std.specs.Prelude.{ℕ, suc, ◌≤◌, cond, List, ◌≡◌, eqb}
use Rattle.positions.specs.declared.position.LineColumn.{LineColumn}
use Rattle.positions.specs.Position.{line_at, column_at}

-- Behind a byte, x being the line and the column before it, they are y: neither grows by more than one.
pub record Follows (byte : ℕ) (x y : LineColumn) : Type 0 where
  pub line : y.line ≡ cond (eqb byte 10) (suc x.line) x.line
  pub column : y.column ≡ cond (eqb byte 10) 1 (suc x.column)
  pub low_line : y.line ≤ suc x.line
  pub low_column : y.column ≤ suc x.column

-- Byte p of a text stands in the line and the column x, neither of which is above p + 1.
pub record StandsIn (text : List ℕ) (p : ℕ) (x : LineColumn) : Type 0 where
  pub line : x.line ≡ line_at text p
  pub column : x.column ≡ column_at text p
  pub low_line : x.line ≤ suc p
  pub low_column : x.column ≤ suc p
