-- `sheet::lines::put_cell` meets its contract: two fields, one behind the other.
use Rattle.sheet.proofs.LineLaws.{field_length, field_next}
use native.Mathlib.Omega.{arith}
use Rattle.sheet.proofs.lines.put_cell.Goals as goal

pub returns : goal.returns
returns c =
    field_next _ _ _ _ _ _ _ c.put_field.ensures c.put_field-2.ensures (rw field_length)
    (omega (arith, c.requires))
