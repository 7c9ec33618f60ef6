-- The printed text of a trial (document 02, slip 1), from a sheet's bytes, an order and a seed.
use Rattle.std.specs.Prelude.{ℕ, List, ◌++◌}
use Rattle.laws.specs.Verdict.{Verdict, ◌then◌, demand}
use Rattle.floor.specs.declared.Floor.{Floor}
use Rattle.floor.specs.Checks.{within}
use Rattle.sheet.specs.Values.{floor_at, walls_at}
use Rattle.sheet.specs.Read.{sheet_verdict}
use Rattle.printing.specs.Print.{print_of, or_refusal}
use Rattle.reporting.specs.Text.{report_text}
use Rattle.trial.specs.Report.{report_numbers}
use Rattle.trial.specs.Entry.{trial_of}

-- Refusal 11, 0: an order other than 1 to 3.
unfoldable pub order_verdict : ℕ → Verdict
order_verdict order = demand (within 1 3 order) 11 0

-- The text of a trial of a floor: the report's, then the printed routes.
unfoldable pub played_text : Floor → List ℕ → (order seed : ℕ) → List ℕ
played_text f ws order seed = report_text f.carriers order (report_numbers (trial_of f ws order seed).report) ++ print_of f ws

-- What is printed for a sheet, an order and a seed; of a refused sheet or order the line of the refusal.
unfoldable pub trial_text : List ℕ → (order seed : ℕ) → List ℕ
trial_text text order seed =
    or_refusal (sheet_verdict text then order_verdict order) (played_text (floor_at text) (walls_at text) order seed)
