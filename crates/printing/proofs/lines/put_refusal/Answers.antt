-- `printing::lines::put_refusal` meets its contract: three fields and a newline, one behind the other.
use mathlib.Core.Path.{refl}
use Rattle.printing.specs.Text.{refusal_line}
use Rattle.fields.specs.Field.{field_of}
use Rattle.sheet.specs.Text.{line_of}
use Rattle.sheet.proofs.LineLaws.{field_next, newline_next}
use native.Mathlib.Omega.{arith}
use Rattle.printing.proofs.lines.put_refusal.Goals as goal

pub returns : goal.returns
unfolding refusal_line line_of field_of
returns c =
    let enough = c.requires in
    let two = field_next _ _ _ _ 0 5 _ c.put_field.ensures c.put_field-2.ensures refl (omega arith) in
    let three = field_next _ _ _ _ 0 10 _ two c.put_field-3.ensures refl (omega arith) in
    record { bytes = newline_next _ _ _ 0 15 three refl (omega arith); size = refl }
