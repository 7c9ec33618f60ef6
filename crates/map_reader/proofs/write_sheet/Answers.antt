-- `map_reader::write_sheet` meets its contract: a sheet that is written is that of the floor.
use Rattle.floor.proofs.AnswersLaws.{met_passed}
use Rattle.map_reader.proofs.ToldLaws.{sheet_told}
use Rattle.map_reader.proofs.write_sheet.Goals as goal

pub returns : goal.returns
returns c =
    sheet_told _ _ _ _ _ (met_passed c.in_ok-write.ensures.answers) c.write.ensures.stores c.sheet_length.ensures
