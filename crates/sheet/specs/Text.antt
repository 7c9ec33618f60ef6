-- The sheet of a floor, as text.
use Rattle.std.specs.Prelude.{ℕ, zero, suc, ◌+◌, ◌*◌, ◌/◌, ◌%◌, List, [], ◌∷◌, ◌++◌, get_or}
use Rattle.floor.specs.declared.Floor.{Floor}
use Rattle.floor.specs.Checks.{start_of, count_of, dock_of}
use Rattle.fields.specs.Field.{field_of}
use Rattle.fields.specs.Form.{counted_length}

-- A line: its fields and one newline.
unfoldable pub line_of : List ℕ → List ℕ
line_of [] = 10 ∷ []
line_of (x ∷ xs) = field_of x ++ line_of xs

-- Lines 0 to k − 1, one after the other.
unfoldable pub lines_of : (ℕ → List ℕ) → ℕ → List ℕ
lines_of line zero = []
lines_of line (suc k) = lines_of line k ++ line k

-- Line 1: width, height, horizon, depth, carriers, walls.
unfoldable pub head_line : Floor → List ℕ
head_line f = line_of (f.width ∷ f.height ∷ f.horizon ∷ f.depth ∷ f.carriers ∷ f.walls ∷ [])

-- The columns and rows of the cells φ 0 to φ (n − 1).
unfoldable pub cell_numbers : ℕ → (ℕ → ℕ) → ℕ → List ℕ
cell_numbers width φ zero = []
cell_numbers width φ (suc n) = φ 0 % width ∷ φ 0 / width ∷ cell_numbers width (λ k. φ (suc k)) n

-- A carrier's line: start column, start row, dock count, then the docks' columns and rows.
unfoldable pub carrier_line : Floor → ℕ → List ℕ
carrier_line f i =
    line_of
    (start_of f i % f.width ∷ start_of f i / f.width ∷ count_of f i ∷ cell_numbers f.width (dock_of f i) (count_of f i))

-- A wall's line: column, row.
unfoldable pub wall_line : ℕ → ℕ → List ℕ
wall_line width c = line_of (c % width ∷ c / width ∷ [])

-- A line for each carrier, and a line for each wall.
abbrev pub carrier_lines : Floor → List ℕ
carrier_lines f = lines_of (carrier_line f) f.carriers

abbrev pub wall_lines : Floor → List ℕ → List ℕ
wall_lines f ws = lines_of (λ j. wall_line f.width (get_or ws j 0)) f.walls

-- The sheet: line 1, the carriers' lines, the walls' lines, and nothing after them.
unfoldable pub sheet_of : Floor → List ℕ → List ℕ
sheet_of f ws = head_line f ++ (carrier_lines f ++ wall_lines f ws)

-- The columns at which a carrier's line and a wall's line begin, and the sheet's length: 31 bytes, 16 a carrier and 10 a dock, 11 a wall.
unfoldable pub carrier_at : Floor → ℕ → ℕ
carrier_at f zero = 31
carrier_at f (suc i) = carrier_at f i + counted_length (count_of f i)

unfoldable pub wall_at : Floor → ℕ → ℕ
wall_at f j = carrier_at f f.carriers + 11 * j

unfoldable pub sheet_length : Floor → ℕ
sheet_length f = wall_at f f.walls
