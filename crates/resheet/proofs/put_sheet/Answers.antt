-- `resheet::put_sheet` meets its contract: the memory has room for every sheet.
use mathlib.Core.Path.{sym}
use lib.Seq.{length-take-le}
use Rattle.resheet.proofs.SheetLaws.{sheet_put}
use Rattle.resheet.proofs.put_sheet.Goals as goal

pub slice_bounds-write-end : goal.slice_bounds-write-end
slice_bounds-write-end c =
    sym (length-take-le _ _ c.requires.walls_in_bounds)

pub returns : goal.returns
returns c =
    sheet_put _ _ c.requires.walls_value _ _ _ c.requires.in_bounds c.write.ensures.stores c.sheet_length.ensures
