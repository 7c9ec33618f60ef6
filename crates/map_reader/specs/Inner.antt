-- Inner matter: nothing claimed rests on this. What the inner functions are proved against.
use Rattle.std.specs.Prelude.{ℕ, ◌+◌, ◌≤◌, ◌<◌, ◌≡◌, List, length, take, Result, IfOk}
use Rattle.io.specs.Counts.{IsPrefixLen}
use Rattle.laws.specs.Memory.{part}
use Rattle.laws.specs.Verdict.{passed}
use Rattle.floor.specs.declared.Floor.{Floor}
use Rattle.floor.specs.Checks.{check_of}
use Rattle.sheet.specs.Text.{sheet_of}
use Rattle.reporting.specs.Put.{PutAt}
use Rattle.map_reader.specs.declared.problems.Problem.{Problem}
use Rattle.map_reader.specs.declared.rows.Shape.{Shape}
use Rattle.map_reader.specs.Told.{rows_in}

-- The column that is answered lies behind one column, and not behind another.
abbrev pub ReadWithin : (at most : ℕ) → Result ℕ Problem → Type 0
ReadWithin at most read = IfOk read (λ n. (at < n) × (n ≤ most))

-- A row of w cells at a column was copied to a base of a memory, and the column behind its newline is answered.
pub record RowCopied (text : List ℕ) (at w : ℕ) (old : List ℕ) (base : ℕ) (new : List ℕ) (n : ℕ) : Type 0 where
  pub next : n ≡ at + w + 1
  pub within : n ≤ length text
  pub puts : PutAt (part text at w) old base new (base + w)

abbrev pub RowRead : (text : List ℕ) (at w : ℕ) (old : List ℕ) (base : ℕ) (new : List ℕ) → Result ℕ Problem → Type 0
RowRead text at w old base new read = IfOk read (λ n. RowCopied text at w old base new n)

-- Rows within the limits of a floor, in front of a memory.
pub record RowsRead (text : List ℕ) (first : ℕ) (old new : List ℕ) (x : Shape) : Type 0 where
  pub some : 1 ≤ x.width
  pub width : x.width ≤ 32
  pub height : x.height ≤ 32
  pub few : x.cells ≤ 1024
  pub next : x.next ≤ length text
  pub puts : PutAt (rows_in text first x.width x.height) old 0 new x.cells

abbrev pub ShapeRead : (text : List ℕ) (first : ℕ) (old new : List ℕ) → Result Shape Problem → Type 0
ShapeRead text first old new read = IfOk read (λ x. RowsRead text first old new x)

-- The marks of the cells are those of rows in the text.
pub record RowsIn (text : List ℕ) (marks : List ℕ) (x : Shape) : Type 0 where
  pub first : ℕ
  pub some : 1 ≤ x.width
  pub width : x.width ≤ 32
  pub height : x.height ≤ 32
  pub few : length marks ≤ 1024
  pub next : x.next ≤ length text
  pub rows : marks ≡ rows_in text first x.width x.height

-- The sheet of a floor is told, or a refusal.
pub record Written (f : Floor) (ws out : List ℕ) (n : ℕ) : Type 0 where
  pub passes : check_of f ws ≡ passed
  pub counts : IsPrefixLen n out
  pub bytes : take n out ≡ sheet_of f ws

abbrev pub ToldOf : Floor → List ℕ → List ℕ → Result ℕ Problem → Type 0
ToldOf f ws out told = IfOk told (λ n. Written f ws out n)
