-- `sheet::lines::put_head` meets its contract: six fields and a newline, one behind the other.
use Rattle.sheet.specs.Text.{line_of, head_line}
use Rattle.sheet.proofs.LineLaws.{field_next, newline_next}
use Rattle.fields.specs.Field.{field_of}
use mathlib.Core.Path.{refl}
use native.Mathlib.Omega.{arith}
use Rattle.sheet.proofs.lines.put_head.Goals as goal

pub returns : goal.returns
unfolding head_line line_of field_of
returns c =
    let lent = c.requires in
    let two = field_next _ _ _ _ 0 5 _ c.put_field.ensures c.put_field-2.ensures refl (omega arith) in
    let three = field_next _ _ _ _ 0 10 _ two c.put_field-3.ensures refl (omega arith) in
    let four = field_next _ _ _ _ 0 15 _ three c.put_field-4.ensures refl (omega arith) in
    let five = field_next _ _ _ _ 0 20 _ four c.put_field-5.ensures refl (omega arith) in
    let six = field_next _ _ _ _ 0 25 _ five c.put_field-6.ensures refl (omega arith) in
    newline_next _ _ _ 0 30 six refl (omega arith)
