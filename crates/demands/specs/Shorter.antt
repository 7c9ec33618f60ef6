-- A floor without its last carrier (document 02, slip 5): as a record, as a sheet, and as it is printed.
use Rattle.std.specs.Prelude.{ℕ, ◌-◌, ◌≤◌, cond, List, [], ◌∷◌, ◌++◌, ◌≡◌, eqb, length, take, drop}
use Rattle.laws.specs.Verdict.{passed}
use Rattle.floor.specs.declared.Floor.{Floor}
use Rattle.floor.specs.Checks.{check_of}
use Rattle.floor.specs.Accepted.{SameFloor}
use Rattle.fields.specs.Field.{field_of}
use Rattle.sheet.specs.Text.{line_of, lines_of, sheet_length}
use Rattle.sheet.specs.Form.{carrier_column}
use Rattle.sheet.specs.Values.{floor_at, walls_at}
use Rattle.sheet.specs.Read.{read_verdict, read_floor, read_walls, write_sheet}
use Rattle.planner.specs.Plan.{plan_of, failing_of}
use Rattle.planner.specs.Claims.{answer_at}
use Rattle.printing.specs.Text.{answer_line}
use Rattle.printing.specs.Print.{print_of, routes_of}

-- The floor without its last carrier: one carrier less is counted, and the record's places past the count are no part of the floor.
unfoldable pub drop_last : Floor → Floor
drop_last f =
    record {
      width = f.width;
      height = f.height;
      horizon = f.horizon;
      depth = f.depth;
      carriers = f.carriers - 1;
      walls = f.walls;
      starts = f.starts;
      counts = f.counts;
      docks = f.docks;
    }

-- A sheet of n carriers without its last carrier: the count, at column 20, is one less, and the last carrier's line is left out.
unfoldable pub without_last : ℕ → List ℕ → List ℕ
without_last n text =
    take 20 text ++ (field_of (n - 1) ++ (take (carrier_column text (n - 1) - 25) (drop 25 text) ++ drop (carrier_column text n) text))

-- The failing carrier of n when the last is dropped: as it was, or 0 if it was the last.
unfoldable pub failing_without : ℕ → ℕ → ℕ
failing_without n failing = cond (eqb failing n) 0 failing

module _ (f : Floor) (ws : List ℕ) where
  -- The printed line of a carrier of the floor, and the lines of all carriers but the last.
  abbrev line : ℕ → List ℕ
  line i = answer_line f i (answer_at (plan_of f ws) i)

  abbrev others : List ℕ
  others = lines_of line (f.carriers - 1)

  -- What is printed for the floor, and for the floor without its last carrier: behind line 1, with carriers and failing carrier, the other
  -- carriers' lines are the same.
  pub record LastLineGone (whole shorter : List ℕ) : Type 0 where
    pub printed : whole ≡ line_of (f.carriers ∷ failing_of (plan_of f ws) ∷ []) ++ (others ++ line (f.carriers - 1))
    pub without : shorter ≡ line_of ((f.carriers - 1) ∷ failing_without f.carriers (failing_of (plan_of f ws)) ∷ []) ++ others

-- What holds of an accepted floor of more than one carrier, given as a record.
pub record Shortened (f : Floor) (ws : List ℕ) : Type 0 where
  -- Without its last carrier it is accepted.
  pub accepted : check_of (drop_last f) ws ≡ passed
  -- The other carriers have the same sequential answers, and fail alike.
  pub answers : plan_of (drop_last f) ws ≡ take (f.carriers - 1) (plan_of f ws)
  pub failing : failing_of (plan_of (drop_last f) ws) ≡ failing_without f.carriers (failing_of (plan_of f ws))
  -- Its sheet, as it is written into enough memory, is the floor's without the last carrier.
  pub sheet : (old : List ℕ) → sheet_length f ≤ length old →
      take (sheet_length (drop_last f)) (write_sheet (drop_last f) ws old)
      ≡ without_last f.carriers (take (sheet_length f) (write_sheet f ws old))
  -- What is printed for it is what is printed for the floor, without the last line.
  pub printed : LastLineGone f ws (print_of f ws) (print_of (drop_last f) ws)

-- What holds of an accepted sheet of more than one carrier, read with wall memory that is long enough.
pub record ShortenedSheet (text lent : List ℕ) : Type 0 where
  -- The sheet without the last carrier is accepted, and reads as the floor without it.
  pub accepted : read_verdict (without_last (floor_at text).carriers text) (length lent) ≡ passed
  pub floor : SameFloor (drop_last (read_floor text (length lent))) (read_walls text lent)
      (read_floor (without_last (floor_at text).carriers text) (length lent)) (read_walls (without_last (floor_at text).carriers text) lent)
  -- The routes printed for it are those printed for the sheet, without the last line.
  pub printed : LastLineGone (floor_at text) (walls_at text) (routes_of text) (routes_of (without_last (floor_at text).carriers text))
