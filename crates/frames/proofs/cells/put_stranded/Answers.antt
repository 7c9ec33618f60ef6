-- `frames::cells::put_stranded` meets its contract: by the start of the carrier.
use borrow.Author.Tests.{eq-eqb, ne_eqb}
use Rattle.floor.specs.Checks.{start_of}
use Rattle.maps.proofs.MarkLaws.{cond_there, cond_away}
use Rattle.frames.specs.Text.{present_of}
use Rattle.frames.proofs.cells.put_stranded.Goals as goal

pub returns-then-f-i : goal.returns-then-f-i
unfolding present_of start_of
returns-then-f-i c =
    cond_there _ _ _ _ _ _ (eq-eqb _ _ c.if-f-i.true) c.put_bytes.ensures

pub returns : goal.returns
unfolding present_of start_of
returns c =
    cond_away _ _ _ _ (ne_eqb _ _ c.if-f-i.false)
