-- `drawing::cell_mark` meets its contract: a wall's mark, or the carriers'.
use mathlib.Core.Path.{◌∙◌}
use Rattle.floor.proofs.AmongLaws.{among_any}
use Rattle.drawing.specs.Drawing.{cell_mark}
use Rattle.drawing.proofs.cell_mark.Goals as goal

pub returns-then-contains : goal.returns-then-contains
unfolding cell_mark
returns-then-contains c =
    let e = c.if-contains.ensures.value ∙ among_any _ _ _ c.requires in
    rw (← e)

pub returns : goal.returns
unfolding cell_mark
returns c =
    let e = c.if-contains.ensures.value ∙ among_any _ _ _ c.requires in
    rw (← e) c.carrier_mark.ensures
