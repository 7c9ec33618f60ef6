-- `fields::field::put_field` meets its contract: the five columns are a block.
use Rattle.fields.proofs.StoreLaws.{put_stored}
use Rattle.fields.specs.Field.{field_of}
use Rattle.fields.proofs.field.put_field.Goals as goal

pub returns : goal.returns
unfolding field_of
returns c =
    rw (← c.column.ensures, ← c.column-2.ensures, ← c.column-3.ensures, ← c.column-4.ensures, ← c.units.ensures)
    (put_stored _ _ _ _ _ _ _ c.requires)
