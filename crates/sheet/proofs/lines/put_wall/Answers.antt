-- `sheet::lines::put_wall` meets its contract: a cell and a newline.
use Rattle.sheet.specs.Text.{line_of, wall_line}
use Rattle.sheet.proofs.LineLaws.{newline_next}
use Rattle.fields.specs.Field.{field_of}
use mathlib.Core.Path.{refl}
use native.Mathlib.Omega.{arith}
use Rattle.sheet.proofs.lines.put_wall.Goals as goal

pub returns : goal.returns
unfolding wall_line line_of field_of
returns c =
    newline_next _ _ _ _ _ c.put_cell.ensures refl (omega (arith, c.requires))
