-- What the printing functions put into a buffer, from the answers as they lie in memory. Only contracts cite this file.
use Rattle.std.specs.Prelude.{ℕ, ◌+◌, ◌*◌, ◌≤◌, min, cond, ◌≡◌, List, ◌++◌, leb, length, take}
use Rattle.laws.specs.Memory.{put}
use Rattle.laws.specs.Verdict.{Outcome, value, refusal}
use Rattle.floor.specs.declared.Floor.{Floor}
use Rattle.records.specs.Records.{answer_in}
use Rattle.sheet.specs.Text.{lines_of}
use Rattle.printing.specs.Text.{answer_line, first_line, refusal_line}
use Rattle.printing.specs.Print.{print_of, text_length}

-- The line of carrier i, and the lines of the first k carriers, for the answers in a memory.
unfoldable pub line_in : Floor → List ℕ → ℕ → List ℕ
line_in f m i = answer_line f i (answer_in m i)

unfoldable pub lines_in : Floor → List ℕ → ℕ → List ℕ
lines_in f m k = lines_of (line_in f m) k

-- The printed routes for the answers in a memory.
unfoldable pub text_in : Floor → ℕ → List ℕ → List ℕ
text_in f failing m = first_line f failing ++ lines_in f m f.carriers

-- A text stands in front of a buffer that was old, and its length is n.
pub record TextPut (text old new : List ℕ) (n : ℕ) : Type 0 where
  pub bytes : new ≡ put old 0 text
  pub size : n ≡ length text

-- The line of carrier i stands at a column, and next is the column behind it.
pub record LinePut (f : Floor) (i : ℕ) (m old : List ℕ) (at : ℕ) (new : List ℕ) (next : ℕ) : Type 0 where
  pub bytes : new ≡ put old at (line_in f m i)
  pub behind : next ≡ at + length (line_in f m i)
  pub short : next ≤ at + 331

-- The lines of the first k carriers stand behind line 1, and next is the column behind them.
pub record LinesPut (f : Floor) (m old : List ℕ) (k : ℕ) (new : List ℕ) (next : ℕ) : Type 0 where
  pub bytes : new ≡ put old 11 (lines_in f m k)
  pub behind : next ≡ 11 + length (lines_in f m k)
  pub short : next ≤ 11 + 331 * k

-- The answers of a floor within its limits are in a memory, and a buffer has room for their text.
pub record Printable (f : Floor) (m out : List ℕ) : Type 0 where
  pub few : f.carriers ≤ 8
  pub horizon : f.horizon ≤ 63
  pub records : 65 * f.carriers ≤ length m
  pub enough : 11 + 331 * f.carriers ≤ length out

-- A text stands in front of a buffer that has the needed bytes; a shorter buffer is as it was, with the refusal k, p.
pub record TextOrShort (text : List ℕ) (needed k p : ℕ) (old new : List ℕ) (x : Outcome ℕ) : Type 0 where
  pub answers : x ≡ cond (leb needed (length old)) (value (length text)) (refusal k p)
  pub stores : new ≡ cond (leb needed (length old)) (put old 0 text) old

-- The same for the routes of a floor that was read, its walls standing in front of others.
unfoldable pub FloorPut : Floor → List ℕ → List ℕ → List ℕ → Outcome ℕ → Type 0
FloorPut f walls old new x = TextOrShort (print_of f (take f.walls walls)) (text_length f) 9 0 old new x

-- The same for the line of a refused sheet, a place over 65,535 printed as that.
unfoldable pub RefusalPut : ℕ → ℕ → List ℕ → List ℕ → Outcome ℕ → Type 0
RefusalPut k p old new x = TextOrShort (refusal_line k (min p 65535)) 16 k p old new x
