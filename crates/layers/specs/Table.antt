-- Tables of sets of cells: a set a beat, 32 words each, a word for each row of the grid; behind them all an empty word.
use Rattle.std.specs.Prelude.{ℕ, ◌+◌, ◌*◌, ◌/◌, ◌%◌, ◌≤◌, ◌<◌, Bool, true, ◌&&◌, List, ◌⊎◌, ◌≡◌, ltb, length, get_or}
use Rattle.floor.specs.declared.Floor.{Floor}
use Rattle.bitrows.specs.Rows.{has}
use Rattle.layers.specs.declared.SearchGrid.{SearchGrid}
use Rattle.layers.specs.declared.Place.{Place}

-- The scene of a floor.
unfoldable pub search_grid_of : Floor → SearchGrid
search_grid_of f =
    record { width = f.width; scale = 65536 / f.width + 1; cells = f.width * f.height; horizon = f.horizon }

-- A grid that fits the rows, with the scale of its width.
pub record Grid (g : SearchGrid) : Type 0 where
  pub thin : 1 ≤ g.width
  pub narrow : g.width ≤ 32
  pub low : g.cells ≤ 32 * g.width
  pub scaled : g.scale ≡ 65536 / g.width + 1

-- The row and the column of cell c.
pub record PlaceOf (g : SearchGrid) (c : ℕ) (p : Place) : Type 0 where
  pub row : p.row ≡ c / g.width
  pub column : p.column ≡ c % g.width
  pub low : p.row < 32
  pub thin : p.column < g.width
  pub narrow : p.column < 32

-- What the numbers of a scene are: a grid that fits the rows, and views and beats as many as lent.
pub record Fits (g : SearchGrid) (k : ℕ) (m : List ℕ) : Type 0 where
  pub grid : Grid g
  pub short : g.horizon ≤ 63
  pub lent : 65 * k ≤ length m

-- The place of a row among the words of a beat: rows 8 apart stand side by side.
unfoldable pub slot_of : ℕ → ℕ
slot_of row = row % 8 * 4 + row / 8

-- The word of a row at beat t.
unfoldable pub word_of : ℕ → ℕ → ℕ
word_of t row = t * 32 + slot_of row

-- The row of word j of a beat.
unfoldable pub row_of : ℕ → ℕ
row_of j = j % 4 * 8 + j / 4

-- Cell c is in the set of beat t.
unfoldable pub in_set : SearchGrid → List ℕ → ℕ → ℕ → Bool
in_set g sets t c = ltb c g.cells && has sets (word_of t (c / g.width)) (c % g.width)

-- Every digit of the table is a cell.
pub record Tidy (g : SearchGrid) (sets : List ℕ) : Type 0 where
  pub long : length sets ≡ 2049
  pub thin : (i column : ℕ) → has sets i column ≡ true → column < g.width
  pub rows : (t row column : ℕ) → row < 32 → has sets (word_of t row) column ≡ true → row * g.width + column < g.cells
  pub empty : get_or sets 2048 0 ≡ 0

-- The words after are those before with n words from word i on as a function says.
pub record Rewritten (words : List ℕ) (value : ℕ → ℕ) (i n : ℕ) (after : List ℕ) : Type 0 where
  pub long : length after ≡ length words
  pub inside : (j : ℕ) → j < n → get_or after (i + j) 0 ≡ value j
  pub outside : (j : ℕ) → (j < i) ⊎ (i + n ≤ j) → get_or after j 0 ≡ get_or words j 0
