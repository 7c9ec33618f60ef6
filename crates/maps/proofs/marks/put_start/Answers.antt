-- `maps::marks::put_start` meets its contract: by the start of the carrier.
use borrow.Author.Tests.{eq-eqb, ne_eqb}
use Rattle.floor.specs.Checks.{start_of}
use Rattle.maps.specs.Map.{start_mark}
use Rattle.maps.proofs.MarkLaws.{cond_there, cond_away}
use Rattle.maps.proofs.marks.put_start.Goals as goal

pub returns-then-f-i : goal.returns-then-f-i
unfolding start_mark start_of
returns-then-f-i c =
    cond_there _ _ _ _ _ _ (eq-eqb _ _ c.if-f-i.true) c.put_bytes.ensures

pub returns : goal.returns
unfolding start_mark start_of
returns c =
    cond_away _ _ _ _ (ne_eqb _ _ c.if-f-i.false)
