-- `drawing::carrier_mark` meets its contract: the mark is that of the carriers passed.
use mathlib.Core.Path.{◌∙◌}
use Rattle.drawing.proofs.DrawingLaws.{mark_start, mark_there, mark_away, mark_end}
use native.Mathlib.Omega.{arith}
use Rattle.drawing.proofs.carrier_mark.Goals as goal
use Rattle.drawing.proofs.carrier_mark.Goals.{then-places-k, else-places-k}

pub loop-k-init : goal.loop-k-init
loop-k-init c = mark_start _ _

pub loop-k-preserved : goal.loop-k-preserved
loop-k-preserved c =
    let m = c.loop-k.invariant in
    elim c.if-places-k.branch [
      | then-places-k w ↦ w.mark-is ∙ w.mark_with-mark.ensures ∙ mark_there _ _ _ _ m w.if-places-k.true
      | else-places-k w ↦ w.mark-is ∙ mark_away _ _ _ _ m w.if-places-k.false
    ]

pub returns : goal.returns
returns c = mark_end _ _ _ _ c.loop-k.invariant (omega arith) c.loop-k-test.false
