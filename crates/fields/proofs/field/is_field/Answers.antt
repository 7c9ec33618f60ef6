-- `fields::field::is_field` meets its contract: the form of the five bytes (`field_written`).
use Rattle.fields.proofs.StoreLaws.{five_bytes}
use Rattle.fields.proofs.FiveColumns.{field_written}
use Rattle.fields.proofs.field.is_field.Goals as goal

pub returns : goal.returns
returns c = field_written _ _ (rw (five_bytes _ _ c.requires) at c.is_written.ensures)
