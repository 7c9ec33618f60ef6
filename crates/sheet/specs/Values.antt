-- What a text in good form says: line 1's values stand at fixed columns, a carrier's behind the lines before its own.
use Rattle.std.specs.Prelude.{ℕ, zero, suc, ◌+◌, ◌*◌, ◌/◌, ◌%◌, min, cond, ◌&&◌, List, [], ◌∷◌, ◌++◌, replicate, ltb}
use Rattle.floor.specs.declared.Floor.{Floor}
use Rattle.fields.specs.Field.{number_at}
use Rattle.sheet.specs.Text.{wall_at}
use Rattle.sheet.specs.Form.{carrier_column}

-- A value as a record holds it: 65535 stands for every number above it, which no limit and no grid reaches.
unfoldable pub value_at : List ℕ → ℕ → ℕ
value_at text at = min (number_at text at) 65535

-- The cell of a column and a row: a cell number of the grid, or the first number past the grid where the two lie outside it.
unfoldable pub cell_of : ℕ → ℕ → ℕ → ℕ → ℕ
cell_of width height col row = cond (ltb col width && ltb row height) (row * width + col) (width * height)

-- The numbers φ 0 to φ (n − 1).
unfoldable pub listed : (ℕ → ℕ) → ℕ → List ℕ
listed φ zero = []
listed φ (suc n) = listed φ n ++ (φ n ∷ [])

-- The cell whose column and row stand at a column of the text.
unfoldable pub cell_at_column : List ℕ → ℕ → ℕ → ℕ → ℕ
cell_at_column text width height at = cell_of width height (value_at text at) (value_at text (at + 5))

-- The first n numbers as φ says, and 0 past them.
unfoldable pub up_to : ℕ → (ℕ → ℕ) → ℕ → ℕ
up_to n φ i = cond (ltb i n) (φ i) 0

-- Line 1, with the carriers placed as given.
abbrev pub line_one_at : List ℕ → List ℕ → List ℕ → List ℕ → Floor
line_one_at text starts counts docks =
    record {
      width = value_at text 0;
      height = value_at text 5;
      horizon = value_at text 10;
      depth = value_at text 15;
      carriers = value_at text 20;
      walls = value_at text 25;
      starts = starts;
      counts = counts;
      docks = docks;
    }

-- Line 1, with no carrier placed yet.
unfoldable pub head_at : List ℕ → Floor
head_at text = line_one_at text (replicate 8 0) (replicate 8 0) (replicate 32 0)

-- The start, the dock count and dock k of carrier i, for the grid of a floor.
unfoldable pub start_in : List ℕ → Floor → ℕ → ℕ
start_in text f i = cell_at_column text f.width f.height (carrier_column text i)

unfoldable pub count_in : List ℕ → ℕ → ℕ
count_in text i = value_at text (carrier_column text i + 10)

unfoldable pub dock_in : List ℕ → Floor → ℕ → ℕ → ℕ
dock_in text f i k = cell_at_column text f.width f.height (carrier_column text i + 15 + 10 * k)

-- Place p of the docks: dock p % 4 of carrier p / 4; 0 past the carriers, and past a dock count.
unfoldable pub place_in : List ℕ → Floor → ℕ → ℕ
place_in text f p = up_to f.carriers (λ i. up_to (count_in text i) (dock_in text f i) (p % 4)) (p / 4)

-- The starts, the dock counts and the docks of a floor's carriers, as a record holds them; 0 past the carriers.
unfoldable pub starts_at : List ℕ → Floor → List ℕ
starts_at text f = listed (up_to f.carriers (start_in text f)) 8

unfoldable pub counts_at : List ℕ → Floor → List ℕ
counts_at text f = listed (up_to f.carriers (count_in text)) 8

unfoldable pub docks_at : List ℕ → Floor → List ℕ
docks_at text f = listed (place_in text f) 32

-- The floor that the text says: line 1, and each carrier's cells from its line.
unfoldable pub floor_at : List ℕ → Floor
floor_at text = line_one_at text (starts_at text (head_at text)) (counts_at text (head_at text)) (docks_at text (head_at text))

-- The walls that the text says, for the counts and the grid of a floor.
unfoldable pub walls_from : List ℕ → Floor → List ℕ
walls_from text f = listed (λ j. cell_at_column text f.width f.height (wall_at f j)) f.walls

unfoldable pub walls_at : List ℕ → List ℕ
walls_at text = walls_from text (floor_at text)
