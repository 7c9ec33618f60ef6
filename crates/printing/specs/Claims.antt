-- The claims about the printed routes; `proofs/Theorems.antt` inhabits the record. Carriers count from 0.
use Rattle.std.specs.Prelude.{ℕ, ◌+◌, ◌≤◌, ◌<◌, ◌≡◌, List, length, take, drop}
use Rattle.floor.specs.declared.Floor.{Floor}
use Rattle.laws.specs.Verdict.{passed, refused, value}
use Rattle.floor.specs.Checks.{check_of}
use Rattle.route.specs.Route.{none}
use Rattle.sheet.specs.Text.{sheet_of, lines_of}
use Rattle.sheet.specs.Values.{floor_at, walls_at}
use Rattle.sheet.specs.Read.{sheet_verdict}
use Rattle.planner.specs.Plan.{plan_of}
use Rattle.planner.specs.Claims.{answer_at}
use Rattle.printing.specs.Text.{none_line, answer_line, routes_text, refusal_line}
use Rattle.printing.specs.Print.{print_of, text_length, routes_of, needed_for, routes_outcome}

-- The column at which the line of carrier k begins.
unfoldable pub line_column : Floor → List ℕ → ℕ → ℕ
line_column f ws k = 11 + length (lines_of (λ i. answer_line f i (answer_at (plan_of f ws) i)) k)

pub record Claims : Type 0 where
  -- An accepted sheet prints the routes of the plan of the floor that it spells.
  pub routes_accepted : (text : List ℕ) → sheet_verdict text ≡ passed
      → routes_of text ≡ routes_text (floor_at text) (plan_of (floor_at text) (walls_at text))
  -- A refused sheet prints one line: 0, the refusal's number, its place.
  pub routes_refused : (text : List ℕ) (k p : ℕ) → sheet_verdict text ≡ refused k p → routes_of text ≡ refusal_line k p
  -- A floor's own sheet prints the routes of that floor.
  pub routes_of_sheet : (f : Floor) (ws : List ℕ) → check_of f ws ≡ passed → routes_of (sheet_of f ws) ≡ print_of f ws
  -- The line of carrier k stands at its column.
  pub line_stands : (f : Floor) (ws : List ℕ) (k : ℕ) → k < f.carriers
      → take (length (answer_line f k (answer_at (plan_of f ws) k))) (drop (line_column f ws k) (print_of f ws))
      ≡ answer_line f k (answer_at (plan_of f ws) k)
  -- None is printed as none: the carrier's line is its number and ` none`.
  pub none_printed : (f : Floor) (ws : List ℕ) (k : ℕ) → k < f.carriers → answer_at (plan_of f ws) k ≡ none
      → take 11 (drop (line_column f ws k) (print_of f ws)) ≡ none_line (k + 1)
  -- The printed routes of an accepted floor have at most the needed length, and no printed text has more than 2,659 bytes.
  pub text_within : (f : Floor) (ws : List ℕ) → check_of f ws ≡ passed → length (print_of f ws) ≤ text_length f
  pub routes_within : (text : List ℕ) → (length (routes_of text) ≤ needed_for text) × (needed_for text ≤ 2659)
  -- With 2,659 bytes of text memory every sheet is answered.
  pub always_written : (text : List ℕ) (bytes : ℕ) → 2659 ≤ bytes → routes_outcome text bytes ≡ value (length (routes_of text))
