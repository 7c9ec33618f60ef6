-- A floor drawn as plain text, a line a row: `#` a wall, `.` nobody, a digit the carrier there, `*` several carriers. Carriers are given by
-- the cells of all eight, a number outside the grid being nowhere; cells and bytes count from 0.
use Rattle.std.specs.Prelude.{ℕ, zero, suc, ◌+◌, ◌*◌, ◌/◌, ◌%◌, cond, List, [], ◌∷◌, ◌++◌, eqb, get_or}
use Rattle.floor.specs.declared.Floor.{Floor}
use Rattle.floor.specs.Checks.{among}

-- The mark of a cell in which carrier k + 1 is too: its digit where nobody was marked, otherwise `*`.
unfoldable pub mark_with : (mark k : ℕ) → ℕ
mark_with mark k = cond (eqb mark 46) (49 + k) 42

-- The mark of cell c for the first k carriers.
unfoldable pub carrier_mark : List ℕ → (c k : ℕ) → ℕ
carrier_mark places c zero = 46
carrier_mark places c (suc k) = cond (eqb (get_or places k 0) c) (mark_with (carrier_mark places c k) k) (carrier_mark places c k)

-- The mark of cell c: a wall's, or that of the carriers there.
unfoldable pub cell_mark : Floor → List ℕ → List ℕ → ℕ → ℕ
cell_mark f ws places c = cond (among ws f.walls c) 35 (carrier_mark places c 8)

-- Byte k of the drawing: of every width + 1 bytes the marks of a row's cells, then a newline.
unfoldable pub drawn_byte : Floor → List ℕ → List ℕ → ℕ → ℕ
drawn_byte f ws places k =
    let column = k % (f.width + 1) in
    cond (eqb column f.width) 10 (cell_mark f ws places (k / (f.width + 1) * f.width + column))

-- The first n bytes.
unfoldable pub drawn_bytes : Floor → List ℕ → List ℕ → ℕ → List ℕ
drawn_bytes f ws places zero = []
drawn_bytes f ws places (suc n) = drawn_bytes f ws places n ++ (drawn_byte f ws places n ∷ [])

-- The whole drawing: a line a row.
unfoldable pub drawn_floor : Floor → List ℕ → List ℕ → List ℕ
drawn_floor f ws places = drawn_bytes f ws places ((f.width + 1) * f.height)
