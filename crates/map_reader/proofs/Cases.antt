-- Cells computed from the definitions: the row `A.#1`, where the letter `A` stands for the start of carrier 2 and a dock of carrier 1.
use Prim.Native.Nat.{ℕ}
use mathlib.Core.List.{List, [], ◌∷◌}
use mathlib.Core.Path.{◌≡◌, refl}
use Rattle.sheet.specs.Text.{lines_of}
use Rattle.map_reader.specs.Marks.{thing_of, place_of, is_thing, is_wall, cells_where}

abbrev marks : List ℕ
marks = 65 ∷ 46 ∷ 35 ∷ 49 ∷ []

abbrev table : List ℕ
table = 0 ∷ 1 ∷ 0 ∷ 0 ∷ 0 ∷ 0 ∷ 0 ∷ 0 ∷ 1 ∷ 0 ∷ 0 ∷ 0 ∷ 0 ∷ 0 ∷ 0 ∷ 0 ∷ 1 ∷ []

first_start : cells_where (is_thing marks table 0) 4 ≡ 3 ∷ []
unfolding cells_where lines_of is_thing thing_of place_of
first_start = refl

second_start : cells_where (is_thing marks table 1) 4 ≡ 0 ∷ []
unfolding cells_where lines_of is_thing thing_of place_of
second_start = refl

first_dock : cells_where (is_thing marks table 8) 4 ≡ 0 ∷ []
unfolding cells_where lines_of is_thing thing_of place_of
first_dock = refl

walls : cells_where (is_wall marks) 4 ≡ 2 ∷ []
unfolding cells_where lines_of is_wall
walls = refl
