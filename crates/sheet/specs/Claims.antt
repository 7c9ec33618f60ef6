-- The claims about sheets; `proofs/Theorems.antt` inhabits the record.
use Rattle.std.specs.Prelude.{ℕ, ◌*◌, ◌+◌, ◌/◌, ◌%◌, ◌≤◌, ◌<◌, ◌≡◌, ◌↔◌, List, [], ◌∷◌, ◌++◌, length, get_or}
use Rattle.floor.specs.declared.Floor.{Floor}
use Rattle.floor.specs.OneDock.{OneDockFloor, with_one_dock}
use Rattle.laws.specs.Verdict.{passed, refused}
use Rattle.floor.specs.Checks.{check_of}
use Rattle.floor.specs.Accepted.{SameFloor}
use Rattle.fields.specs.Field.{field_of, number_at}
use Rattle.sheet.specs.Text.{line_of, carrier_line, sheet_of, sheet_length}
use Rattle.sheet.specs.Values.{cell_at_column, floor_at, walls_at}
use Rattle.sheet.specs.Read.{sheet_verdict}
use Rattle.sheet.specs.Refused.{RefusedSheet}

pub record Claims : Type 0 where
  -- Every floor that the checks pass has a sheet: its own text is accepted.
  pub has_sheet : (f : Floor) (ws : List ℕ) → check_of f ws ≡ passed → sheet_verdict (sheet_of f ws) ≡ passed
  -- A floor written and read is the same floor.
  pub floor_returns : (f : Floor) (ws : List ℕ) → check_of f ws ≡ passed → SameFloor f ws (floor_at (sheet_of f ws)) (walls_at (sheet_of f ws))
  -- A sheet read and written is the same sheet, byte for byte.
  pub sheet_returns : (text : List ℕ) → sheet_verdict text ≡ passed → sheet_of (floor_at text) (walls_at text) ≡ text
  -- A floor that is read is an accepted floor.
  pub read_accepted : (text : List ℕ) → sheet_verdict text ≡ passed → check_of (floor_at text) (walls_at text) ≡ passed
  -- Each refusal comes exactly under the condition of its row, with its first place.
  pub refuses_exactly : (text : List ℕ) (k p : ℕ) → (sheet_verdict text ≡ refused k p) ↔ RefusedSheet text k p
  -- The cell that a sheet gives is in the grid exactly if its column and its row are.
  pub cell_in_grid : (text : List ℕ) (width height at : ℕ) → width ≤ 32 → height ≤ 32
      → (cell_at_column text width height at < width * height) ↔ ((number_at text at < width) × (number_at text (at + 5) < height))
  -- The sheet's length is the documented figure.
  pub sheet_length_lem : (f : Floor) (ws : List ℕ) → length (sheet_of f ws) ≡ sheet_length f
  -- The place of a refusal is never past the longest sheet, so that it has at most five digits.
  pub place_low : (text : List ℕ) (k p : ℕ) → sheet_verdict text ≡ refused k p → p ≤ 11732
  -- With one dock a carrier's line is document 01's, start and goal, with a count of 1 put in behind the start.
  pub one_dock : (old : OneDockFloor) (i : ℕ) → i < 8
      → carrier_line (with_one_dock old) i
      ≡ field_of (get_or old.starts i 0 % old.width) ++ (field_of (get_or old.starts i 0 / old.width)
      ++ (field_of 1 ++ line_of (get_or old.goals i 0 % old.width ∷ get_or old.goals i 0 / old.width ∷ [])))
