-- The map of a floor, a text that a person can type: horizon and depth, a line a row, and a line for each cell that is more than one thing.
-- Carriers and cells count from 0; carrier i has the digit `1` + i for its start and the letter `a` + i for its docks.
use Rattle.std.specs.Prelude.{ℕ, zero, suc, ◌+◌, ◌*◌, ◌%◌, cond, List, [], ◌∷◌, ◌++◌, eqb, ltb, length}
use Rattle.reporting.specs.Words.{short_decimal}
use Rattle.floor.specs.declared.Floor.{Floor}
use Rattle.floor.specs.Checks.{start_of, is_dock, among}
use Rattle.sheet.specs.Text.{lines_of}
use Rattle.maps.specs.Text.{one_of, marks_text, grid_of}

-- `horizon ` and ` depth `, letter by letter.
unfoldable pub horizon_words : List ℕ
horizon_words = 104 ∷ 111 ∷ 114 ∷ 105 ∷ 122 ∷ 111 ∷ 110 ∷ 32 ∷ []

unfoldable pub depth_words : List ℕ
depth_words = 32 ∷ 100 ∷ 101 ∷ 112 ∷ 116 ∷ 104 ∷ 32 ∷ []

-- Line 1: the horizon and the depth.
unfoldable pub map_head : Floor → List ℕ
map_head f = (((horizon_words ++ short_decimal f.horizon) ++ depth_words) ++ short_decimal f.depth) ++ (10 ∷ [])

-- The digit of carrier i if it starts in cell c; nothing if it does not.
unfoldable pub start_mark : Floor → (c i : ℕ) → List ℕ
start_mark f c i = cond (eqb (start_of f i) c) ((49 + i) ∷ []) []

-- The letter of carrier i if cell c is one of its docks; nothing if it is not.
unfoldable pub dock_mark : Floor → (c i : ℕ) → List ℕ
dock_mark f c i = cond (is_dock f i c) ((97 + i) ∷ []) []

-- The digits of the carriers that start in cell c, and the letters of those that have a dock there, by rising number.
unfoldable pub start_marks : Floor → ℕ → List ℕ
start_marks f c = lines_of (start_mark f c) f.carriers

unfoldable pub dock_marks : Floor → ℕ → List ℕ
dock_marks f c = lines_of (dock_mark f c) f.carriers

-- All that cell c is: starts, then docks.
unfoldable pub marks_of : Floor → ℕ → List ℕ
marks_of f c = start_marks f c ++ dock_marks f c

-- The number of the cells below c that are more than one thing.
unfoldable pub shared_below : Floor → ℕ → ℕ
shared_below f zero = 0
shared_below f (suc c) = cond (ltb 1 (length (marks_of f c))) (suc (shared_below f c)) (shared_below f c)

-- The capital letter of a cell that is more than one thing: from `A` on by rising cell number (after `Z` from `A` again).
unfoldable pub letter_of : Floor → ℕ → ℕ
letter_of f c = 65 + shared_below f c % 26

-- The mark of cell c: `#` a wall, `.` a free cell, the only thing that it is, or its capital letter.
unfoldable pub map_mark : Floor → List ℕ → ℕ → ℕ
map_mark f ws c = cond (among ws f.walls c) 35 (one_of (marks_of f c) 46 (letter_of f c))

-- The line of a cell that is more than one thing: its letter, a space and all that it is; nothing for another cell.
unfoldable pub letter_line : Floor → ℕ → List ℕ
letter_line f c = cond (ltb 1 (length (marks_of f c))) (((letter_of f c ∷ 32 ∷ []) ++ marks_of f c) ++ (10 ∷ [])) []

-- The rows of the map.
unfoldable pub map_rows : Floor → List ℕ → List ℕ
map_rows f ws = grid_of (marks_text (map_mark f ws) 1024) f.width f.height

-- The map: line 1, the rows, and the lines of the capital letters by rising cell number.
unfoldable pub map_of : Floor → List ℕ → List ℕ
map_of f ws = (map_head f ++ map_rows f ws) ++ lines_of (letter_line f) (f.width * f.height)
