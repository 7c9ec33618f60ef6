-- Floors at a beat computed from the definitions: a grid of 3 by 2 with a wall in cell 4. Carrier 1 goes from cell 0 to cell 2, carrier 2
-- has no route and stays in cell 2; its dock is cell 0.
use Prim.Native.Nat.{ℕ}
use mathlib.Core.List.{[], ◌∷◌}
use mathlib.Core.Path.{◌≡◌, refl}
use lib.ListN.{replicate}
use Rattle.laws.specs.Memory.{part}
use Rattle.floor.specs.declared.Floor.{Floor}
use Rattle.floor.specs.Checks.{start_of, count_of, docks_of, is_dock, among}
use Rattle.route.specs.Route.{cell_at, Answer, none, route}
use Rattle.sheet.specs.Text.{lines_of}
use Rattle.planner.specs.Claims.{answer_at}
use Rattle.maps.specs.Text.{one_of, marks_text, row_of, grid_of}
use Rattle.maps.specs.Map.{start_mark, dock_mark, start_marks, dock_marks}
use Rattle.frames.specs.Text.{still_mark, present_of, present_in, frame_mark}

abbrev grid : Floor
grid =
    record {
      width = 3;
      height = 2;
      horizon = 2;
      depth = 1;
      carriers = 2;
      walls = 1;
      starts = 0 ∷ 2 ∷ replicate 6 0;
      counts = 1 ∷ 1 ∷ replicate 6 0;
      docks = 2 ∷ 0 ∷ 0 ∷ 0 ∷ 0 ∷ replicate 27 0;
    }

abbrev answers : ℕ → Answer
answers i = answer_at (route (0 ∷ 1 ∷ 2 ∷ []) ∷ none ∷ []) i

-- At beat 1 `b1B` and `.#.`.
apart : grid_of (marks_text (frame_mark grid (4 ∷ []) answers 1) 6) 3 2 ≡ 98 ∷ 49 ∷ 66 ∷ 10 ∷ 46 ∷ 35 ∷ 46 ∷ 10 ∷ []
unfolding grid_of row_of part marks_text frame_mark still_mark present_in present_of one_of dock_marks start_marks dock_mark start_mark lines_of among
    start_of count_of docks_of is_dock cell_at answer_at
apart = refl

-- At beat 2 carrier 1 is in the start of carrier 2: `b.*` and `.#.`.
together : grid_of (marks_text (frame_mark grid (4 ∷ []) answers 2) 6) 3 2 ≡ 98 ∷ 46 ∷ 42 ∷ 10 ∷ 46 ∷ 35 ∷ 46 ∷ 10 ∷ []
unfolding grid_of row_of part marks_text frame_mark still_mark present_in present_of one_of dock_marks start_marks dock_mark start_mark lines_of among
    start_of count_of docks_of is_dock cell_at answer_at
together = refl
