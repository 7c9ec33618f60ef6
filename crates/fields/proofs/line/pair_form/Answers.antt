-- `fields::line::pair_form` meets its contract: a line of two fields is 11 bytes long.
use Rattle.fields.proofs.ColumnLaws.{pair_line}
use Rattle.fields.proofs.line.pair_form.Goals as goal

pub returns : goal.returns
returns c = pair_line _ _ c.line_form.ensures
