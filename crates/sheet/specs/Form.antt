-- Refusal 1: the form of a sheet's lines, in the order in which document 01 looks at them. A carrier's line is a counted line.
use Rattle.std.specs.Prelude.{ℕ, List}
use Rattle.floor.specs.declared.Floor.{Floor}
use Rattle.laws.specs.Verdict.{Verdict, ◌then◌}
use Rattle.fields.specs.Form.{line_form, counted_form, past_counted, past_pair, column_past, lines_form, end_form}

-- The columns of a text at which the line of carrier i begins, and the line of wall j behind those of n carriers.
unfoldable pub carrier_column : List ℕ → ℕ → ℕ
carrier_column text i = column_past (past_counted text) 31 i

unfoldable pub wall_column : List ℕ → ℕ → ℕ → ℕ
wall_column text n j = column_past past_pair (carrier_column text n) j

-- The lines after line 1, for the counts that line 1 gives.
unfoldable pub rest_form : List ℕ → Floor → Verdict
rest_form text f =
    lines_form (counted_form text) (past_counted text) 31 f.carriers
    then lines_form (λ at. line_form text at 2) past_pair (carrier_column text f.carriers) f.walls
    then end_form text (wall_column text f.carriers f.walls)
