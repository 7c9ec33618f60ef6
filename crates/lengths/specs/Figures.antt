-- The needed length of each lent buffer of a floor.
use Rattle.std.specs.Prelude.{◌*◌, Result}
use Rattle.floor.specs.declared.Floor.{Floor}
use Rattle.floor.specs.declared.Refusal.{Refusal}
use Rattle.floor.specs.Answers.{outcome_by}
use Rattle.laws.specs.Verdict.{Outcome, ◌gives◌}
use Rattle.floor.specs.Checks.{limits_of}
use Rattle.sheet.specs.Text.{sheet_length}
use Rattle.printing.specs.Print.{text_length}
use Rattle.encoding.specs.Places.{state_size}
use Rattle.trial.specs.Report.{report_size}
use Rattle.lengths.specs.declared.Lengths.{Lengths}

-- What the code's answer says: the lengths, or the refusal.
abbrev pub figures_of : Result Lengths Refusal → Outcome Lengths
figures_of x = outcome_by (λ l. l) x

-- As many cell numbers as the floor has walls, the sheet's length in bytes, 65 numbers a carrier for answers or views, 11 bytes and
-- 331 a carrier for printed routes, the numbers of the machine's state, 64 cells of a route, 54 numbers of a floor record, as many
-- numbers as there are figures, and the numbers of a trial's report.
unfoldable pub lengths_of : Floor → Lengths
lengths_of f =
    record {
      walls = f.walls;
      sheet = sheet_length f;
      answers = 65 * f.carriers;
      text = text_length f;
      state = state_size f.carriers;
      route = 64;
      floor = 54;
      figures = 9;
      report = report_size f.carriers;
    }

-- What the entry answers: the lengths of a floor within its limits.
unfoldable pub figures_for : Floor → Outcome Lengths
figures_for f = limits_of f gives lengths_of f
