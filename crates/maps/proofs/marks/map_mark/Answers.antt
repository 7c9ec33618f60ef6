-- `maps::marks::map_mark` meets its contract: by the tests in their order.
use mathlib.Core.Path.{sym, ◌∙◌}
use Rattle.maps.proofs.MarkLaws.{mark_wall, mark_else, one_none, one_only, one_several}
use native.Mathlib.Omega.{arith}
use Rattle.maps.proofs.marks.map_mark.Goals as goal

pub returns-then-is_among : goal.returns-then-is_among
returns-then-is_among c =
    mark_wall _ _ _ (sym c.is_among.ensures ∙ c.if-is_among.true)

pub returns-in-0 : goal.returns-in-0
returns-in-0 c =
    mark_else _ _ _ _ (sym c.is_among.ensures ∙ c.if-is_among.false)
    (one_none _ _ _ c.put_marks-n.ensures c.in-0.is)

pub returns-in-1 : goal.returns-in-1
returns-in-1 c =
    mark_else _ _ _ _ (sym c.is_among.ensures ∙ c.if-is_among.false)
    (one_only _ _ _ c.put_marks-n.ensures c.in-1.is)

pub returns-in_default : goal.returns-in_default
returns-in_default c =
    mark_else _ _ _ _ (sym c.is_among.ensures ∙ c.if-is_among.false)
    (one_several _ _ _ c.put_marks-n.ensures (omega arith)
    ∙ sym c.letter_of.ensures)
