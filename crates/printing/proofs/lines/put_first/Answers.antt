-- `printing::lines::put_first` meets its contract: two fields and a newline, one behind the other.
use mathlib.Core.Path.{refl}
use Rattle.printing.specs.Text.{first_line}
use Rattle.fields.specs.Field.{field_of}
use Rattle.sheet.specs.Text.{line_of}
use Rattle.sheet.proofs.LineLaws.{field_next, newline_next}
use native.Mathlib.Omega.{arith}
use Rattle.printing.proofs.lines.put_first.Goals as goal

pub returns : goal.returns
unfolding first_line line_of field_of
returns c =
    let enough = c.requires in
    let two = field_next _ _ _ _ 0 5 _ c.put_field.ensures c.put_field-2.ensures refl (omega arith) in
    newline_next _ _ _ 0 10 two refl (omega arith)
