-- Texts that maps and frames share: the marks of the cells in their order, and rows of marks.
use Rattle.std.specs.Prelude.{ℕ, ◌*◌, cond, List, [], ◌∷◌, ◌++◌, eqb, length, get_or}
use Rattle.laws.specs.Memory.{part}
use Rattle.sheet.specs.Text.{lines_of}

-- One mark for a list of marks: the only one of it, or a mark for none, or one for several.
unfoldable pub one_of : List ℕ → (none several : ℕ) → ℕ
one_of xs none several = cond (eqb (length xs) 0) none (cond (eqb (length xs) 1) (get_or xs 0 0) several)

-- The marks of the cells 0 to n − 1, one behind the other.
unfoldable pub marks_text : (ℕ → ℕ) → ℕ → List ℕ
marks_text mark n = lines_of (λ c. mark c ∷ []) n

-- A row of a grid of width w: the marks of its cells, and one newline.
unfoldable pub row_of : List ℕ → (w row : ℕ) → List ℕ
row_of marks w row = part marks (row * w) w ++ (10 ∷ [])

-- The grid: a line a row.
unfoldable pub grid_of : List ℕ → (w h : ℕ) → List ℕ
grid_of marks w h = lines_of (row_of marks w) h
