-- What reading a map tells: the sheet of a floor that the checks pass and that is the map's.
use Rattle.std.specs.Prelude.{ℕ, ◌+◌, ◌*◌, ◌/◌, ◌%◌, ◌<◌, ◌≡◌, List, length, take, get_or, ◌⊎◌, Result, IfOk}
use Rattle.io.specs.Counts.{IsPrefixLen}
use Rattle.laws.specs.Memory.{part}
use Rattle.laws.specs.Verdict.{passed}
use Rattle.floor.specs.declared.Floor.{Floor}
use Rattle.floor.specs.Checks.{check_of}
use Rattle.sheet.specs.Text.{lines_of, sheet_of}
use Rattle.map_reader.specs.declared.problems.Problem.{Problem}
use Rattle.map_reader.specs.Marks.{is_thing, is_wall, cells_where}

-- The first n numbers of a list are as φ says.
unfoldable pub Filled : (ℕ → ℕ) → List ℕ → ℕ → Type 0
Filled φ xs n = (i : ℕ) → i < n → get_or xs i 0 ≡ φ i

-- The carriers of a floor are those of a map's n cells: the start of each is the first cell that is it, its docks are the cells that are.
pub record CarriersFrom (marks table : List ℕ) (n : ℕ) (f : Floor) : Type 0 where
  pub starts : Filled (λ i. get_or (cells_where (is_thing marks table i) n) 0 0) f.starts 8
  pub counts : Filled (λ i. length (cells_where (is_thing marks table (8 + i)) n)) f.counts 8
  pub docks : Filled (λ p. get_or (cells_where (is_thing marks table (8 + p / 4)) n) (p % 4) 0) f.docks 32

-- The marks of h rows of w cells that begin at a column of a text, each row ended by one byte.
unfoldable pub rows_in : List ℕ → (first w h : ℕ) → List ℕ
rows_in text first w h = lines_of (λ row. part text (first + row * (w + 1)) w) h

-- A floor and its walls are those of a map: its cells are marked by rows of the text, and a table tells what the capital letters stand for.
pub record MapFloor (text : List ℕ) (f : Floor) (ws : List ℕ) : Type 0 where
  pub first : ℕ
  pub cells : ℕ
  pub marks : List ℕ
  pub table : List ℕ
  pub rows : take cells marks ≡ rows_in text first f.width f.height
  pub walls : ws ≡ cells_where (is_wall marks) cells
  pub carriers : CarriersFrom marks table cells f

-- The first n bytes of a memory are the sheet of a floor that the checks pass, and that is the map's.
pub record SheetIn (text out : List ℕ) (n : ℕ) : Type 0 where
  pub floor : Floor
  pub walls : List ℕ
  pub passes : check_of floor walls ≡ passed
  pub counts : IsPrefixLen n out
  pub bytes : take n out ≡ sheet_of floor walls
  pub map : MapFloor text floor walls

-- A sheet that is told stands in front of the memory; of a refusal nothing is said here.
abbrev pub ToldIn : List ℕ → List ℕ → Result ℕ Problem → Type 0
ToldIn text out told = IfOk told (λ n. SheetIn text out n)

-- What is printed is nothing, or such a sheet.
unfoldable pub SheetOrNothing : List ℕ → List ℕ → ℕ → Type 0
SheetOrNothing text out n = (n ≡ 0) ⊎ SheetIn text out n
