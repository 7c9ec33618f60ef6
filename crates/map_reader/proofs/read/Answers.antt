-- `map_reader::read` meets its contract: the marks of the cells are those of the rows.
use Rattle.map_reader.proofs.WithinLaws.{rows_in_lem}
use Rattle.map_reader.proofs.read.Goals as goal

pub read_rest-requires : goal.read_rest-requires
read_rest-requires c =
    rows_in_lem _ _ _ _ _ c.in_ok-shape.ensures c.no_marks-marks.ensures
