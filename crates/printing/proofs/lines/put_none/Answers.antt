-- `printing::lines::put_none` meets its contract: a field, five bytes and a newline, one behind the other.
use Rattle.printing.specs.Text.{none_line, none_word}
use Rattle.fields.specs.Field.{field_of}
use mathlib.Core.Path.{refl}
use Rattle.laws.proofs.PutLaws.{put_next}
use Rattle.sheet.proofs.LineLaws.{newline_next}
use native.Mathlib.Omega.{arith}
use Rattle.printing.proofs.lines.put_none.Goals as goal

pub returns : goal.returns
unfolding none_line none_word field_of
returns c =
    let enough = c.requires in
    let word = put_next _ _ _ _ _ _ _ c.put_field.ensures c.put_word.ensures refl (omega arith) in
    newline_next _ _ _ _ _ word refl (omega arith)
