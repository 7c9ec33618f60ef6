-- `frames::cells::still_mark` meets its contract: by the tests in their order.
use mathlib.Core.Path.{sym, ◌∙◌}
use Rattle.floor.proofs.LimitsLaws.{check_tells}
use Rattle.maps.proofs.MarkLaws.{one_none, one_only, one_several}
use Rattle.maps.proofs.MapLaws.{markable}
use Rattle.frames.proofs.CellLaws.{still_wall, still_else}
use native.Mathlib.Omega.{arith}
use Rattle.frames.proofs.cells.still_mark.Goals as goal

pub is_among-requires : goal.is_among-requires
is_among-requires c =
    (check_tells _ _ c.requires).lent

pub returns-then-is_among : goal.returns-then-is_among
returns-then-is_among c =
    still_wall _ _ _ (sym c.is_among.ensures ∙ c.if-is_among.true)

pub put_docks-n-requires : goal.put_docks-n-requires
put_docks-n-requires c =
    (markable _ _ c.requires, omega arith)

pub start_mark-requires : goal.start_mark-requires
start_mark-requires c =
    (check_tells _ _ c.requires).bounds.carriers.1

pub returns-in-0 : goal.returns-in-0
returns-in-0 c =
    still_else _ _ _ _ (sym c.is_among.ensures ∙ c.if-is_among.false)
    (one_none _ _ _ c.put_docks-n.ensures c.in-0.is ∙ sym c.start_mark.ensures)

pub returns-in-1 : goal.returns-in-1
returns-in-1 c =
    still_else _ _ _ _ (sym c.is_among.ensures ∙ c.if-is_among.false)
    (one_only _ _ _ c.put_docks-n.ensures c.in-1.is)

pub returns-in_default : goal.returns-in_default
returns-in_default c =
    still_else _ _ _ _ (sym c.is_among.ensures ∙ c.if-is_among.false)
    (one_several _ _ _ c.put_docks-n.ensures (omega arith))
