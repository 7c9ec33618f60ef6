-- The claims about needed lengths; `proofs/Theorems.antt` inhabits the record.
use Rattle.std.specs.Prelude.{ℕ, ◌*◌, ◌≤◌, ◌<◌, ◌≡◌, ◌↔◌, List, length}
use Rattle.floor.specs.declared.Floor.{Floor}
use Rattle.laws.specs.Verdict.{passed, refused, value, refusal}
use Rattle.floor.specs.Checks.{check_of}
use Rattle.sheet.specs.Text.{sheet_length}
use Rattle.sheet.specs.Values.{floor_at}
use Rattle.sheet.specs.Read.{sheet_verdict, read_verdict, write_verdict}
use Rattle.search.specs.Search.{request_of}
use Rattle.planner.specs.Plan.{plan_verdict}
use Rattle.printing.specs.Print.{text_length, print_verdict, routes_outcome}
use Rattle.encoding.specs.Places.{state_size}
use Rattle.encoding.specs.Calls.{place_verdict}
use Rattle.trial.specs.Report.{report_size}
use Rattle.trial.specs.Entry.{trial_verdict}
use Rattle.lengths.specs.Figures.{figures_for, lengths_of}

pub record Claims : Type 0 where
  -- An accepted floor has its lengths.
  pub accepted_known : (f : Floor) (ws : List ℕ) → check_of f ws ≡ passed → figures_for f ≡ value (lengths_of f)
  -- None is over 65,536 bytes: two bytes a wall, the sheet, two bytes a number of answers, the text, two bytes a number of the state,
  -- of a route and of a record, eight bytes a figure, two bytes a number of a report.
  pub walls_within : (f : Floor) (ws : List ℕ) → check_of f ws ≡ passed → 2 * f.walls ≤ 65536
  pub sheet_within : (f : Floor) (ws : List ℕ) → check_of f ws ≡ passed → sheet_length f ≤ 65536
  pub answers_within : (f : Floor) (ws : List ℕ) → check_of f ws ≡ passed → 2 * (65 * f.carriers) ≤ 65536
  pub text_within : (f : Floor) (ws : List ℕ) → check_of f ws ≡ passed → text_length f ≤ 65536
  pub state_within : (f : Floor) (ws : List ℕ) → check_of f ws ≡ passed → 2 * state_size f.carriers ≤ 65536
  pub route_within : (f : Floor) → 2 * (lengths_of f).route ≤ 65536
  pub floor_within : (f : Floor) → 2 * (lengths_of f).floor ≤ 65536
  pub figures_within : (f : Floor) → 8 * (lengths_of f).figures ≤ 65536
  pub report_within : (f : Floor) (ws : List ℕ) → check_of f ws ≡ passed → 2 * report_size f.carriers ≤ 65536
  -- No sheet is longer than 11,732 bytes: line 1, eight carriers of four docks, 1023 walls.
  pub sheet_longest : (f : Floor) (ws : List ℕ) → check_of f ws ≡ passed → sheet_length f ≤ 11732
  -- Memory for answers is called too short exactly below the needed length, and so is memory for views.
  pub answers_too_short : (f : Floor) (ws : List ℕ) (lent : ℕ) → check_of f ws ≡ passed
      → (plan_verdict f ws lent ≡ refused 9 0) ↔ (lent < 65 * f.carriers)
  pub views_too_short : (f : Floor) (ws : List ℕ) (i : ℕ) (m : List ℕ) → check_of f ws ≡ passed
      → (request_of f ws i m ≡ refused 9 0) ↔ (length m < 65 * f.carriers)
  -- Wall memory is called too short exactly below the needed length, and then only if nothing else is wrong.
  pub walls_too_short : (text : List ℕ) (lent : ℕ)
      → (read_verdict text lent ≡ refused 9 0) ↔ ((sheet_verdict text ≡ passed) × (lent < (floor_at text).walls))
  -- Sheet memory of an accepted floor is called too short exactly below the needed length.
  pub sheet_too_short : (f : Floor) (ws : List ℕ) (lent : ℕ) → check_of f ws ≡ passed
      → (write_verdict f ws lent ≡ refused 9 0) ↔ (lent < sheet_length f)
  -- Text memory of an accepted floor whose answers have room is called too short exactly below the needed length.
  pub text_too_short : (f : Floor) (ws : List ℕ) (lent bytes : ℕ) → check_of f ws ≡ passed → 65 * f.carriers ≤ lent
      → (print_verdict f ws lent bytes ≡ refused 9 0) ↔ (bytes < text_length f)
  -- Text memory of an accepted sheet is called too short exactly below the needed length of its floor.
  pub sheet_text_too_short : (text : List ℕ) (bytes : ℕ) → sheet_verdict text ≡ passed
      → (routes_outcome text bytes ≡ refusal 9 0) ↔ (bytes < text_length (floor_at text))
  -- Memory for a state of an accepted floor is called too short exactly below the needed length.
  pub state_too_short : (f : Floor) (ws : List ℕ) (lent : ℕ) → check_of f ws ≡ passed
      → (place_verdict f ws lent ≡ refused 9 0) ↔ (lent < state_size f.carriers)
  -- Memory for the report of a trial whose state has room is called too short exactly below the needed length.
  pub report_too_short : (f : Floor) (ws : List ℕ) (order state report : ℕ) → check_of f ws ≡ passed → state_size f.carriers ≤ state
      → (trial_verdict f ws order state report ≡ refused 9 0) ↔ (report < report_size f.carriers)
