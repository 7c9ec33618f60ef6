-- `map_reader::rows::copy_row` meets its contract: the row stands in the part that it is copied to.
use Rattle.map_reader.proofs.WithinLaws.{row_copied}
use Rattle.map_reader.proofs.rows.copy_row.Goals as goal

pub returns : goal.returns
returns c = row_copied _ _ _ _ _ _ c.requires.1 c.copy_from_slice.ensures.after
