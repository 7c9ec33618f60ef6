-- Marks and lines computed from the definitions: document 01's grid of 3 by 2 with a wall in cell 4. Carrier 1 goes from cell 0 to cell 2,
-- carrier 2 from cell 2 to cell 0, and carrier 2 has a second dock in cell 5: `A.B`, `.#b`, and the lines `A 1b` and `B 2a`.
use mathlib.Core.List.{[], ◌∷◌}
use mathlib.Core.Path.{◌≡◌, refl}
use lib.ListN.{replicate}
use Rattle.laws.specs.Memory.{part}
use Rattle.reporting.specs.Words.{short_decimal}
use Rattle.floor.specs.declared.Floor.{Floor}
use Rattle.floor.specs.Checks.{start_of, count_of, docks_of, is_dock, among}
use Rattle.sheet.specs.Text.{lines_of}
use Rattle.maps.specs.Text.{one_of, marks_text, row_of, grid_of}
use Rattle.maps.specs.Map.{horizon_words, depth_words, map_head, start_mark, dock_mark, start_marks, dock_marks, marks_of, shared_below}
use Rattle.maps.specs.Map.{letter_of}
use Rattle.maps.specs.Map.{map_mark, letter_line}

abbrev grid : Floor
grid =
    record {
      width = 3;
      height = 2;
      horizon = 14;
      depth = 1;
      carriers = 2;
      walls = 1;
      starts = 0 ∷ 2 ∷ replicate 6 0;
      counts = 1 ∷ 2 ∷ replicate 6 0;
      docks = 2 ∷ 0 ∷ 0 ∷ 0 ∷ 0 ∷ 5 ∷ replicate 26 0;
    }

-- `horizon 14 depth 1`.
head : map_head grid ≡ 104 ∷ 111 ∷ 114 ∷ 105 ∷ 122 ∷ 111 ∷ 110 ∷ 32 ∷ 49 ∷ 52 ∷ 32 ∷ 100 ∷ 101 ∷ 112 ∷ 116 ∷ 104 ∷ 32 ∷ 49 ∷ 10 ∷ []
unfolding map_head horizon_words depth_words short_decimal
head = refl

-- `A.B` and `.#b`, from the marks of six cells.
rows : grid_of (marks_text (map_mark grid (4 ∷ [])) 6) 3 2 ≡ 65 ∷ 46 ∷ 66 ∷ 10 ∷ 46 ∷ 35 ∷ 98 ∷ 10 ∷ []
unfolding grid_of row_of part marks_text map_mark letter_of shared_below marks_of start_marks dock_marks start_mark dock_mark one_of lines_of among
    start_of count_of docks_of is_dock
rows = refl

-- `A 1b` and `B 2a`.
letters : lines_of (letter_line grid) 6 ≡ 65 ∷ 32 ∷ 49 ∷ 98 ∷ 10 ∷ 66 ∷ 32 ∷ 50 ∷ 97 ∷ 10 ∷ []
unfolding letter_line letter_of shared_below marks_of start_marks dock_marks start_mark dock_mark lines_of start_of count_of docks_of is_dock among part
letters = refl
