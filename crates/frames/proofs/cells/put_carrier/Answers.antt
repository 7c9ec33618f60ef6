-- `frames::cells::put_carrier` meets its contract: by the tag of its answer, and the cell of its route.
use Rattle.frames.proofs.CellLaws.{stranded_put, there_put, away_put}
use Rattle.frames.proofs.cells.put_carrier.Goals as goal

pub returns-then-own-tag-ne2 : goal.returns-then-own-tag-ne2
returns-then-own-tag-ne2 c =
    stranded_put _ _ _ _ _ _ _ _ _ c.if-own-tag-ne2.true c.put_stranded.ensures

pub returns-then-own-tag : goal.returns-then-own-tag
returns-then-own-tag c =
    there_put _ _ _ _ _ _ _ _ _ c.if-own-tag-ne2.false c.requires.2 c.if-own-tag.true c.put_bytes.ensures

pub returns : goal.returns
returns c =
    away_put _ _ _ _ _ _ _ c.if-own-tag-ne2.false c.requires.2 c.if-own-tag.false
