-- `frames::cells::frame_mark` meets its contract: by the number of carriers there.
use borrow.Author.Rules.{rules}
use Rattle.frames.specs.Inner.{Drawable}
use mathlib.Core.Path.{sym, ◌∙◌}
use Rattle.floor.proofs.LimitsLaws.{check_tells}
use Rattle.maps.proofs.MarkLaws.{one_none, one_only, one_several}
use Rattle.frames.specs.Text.{frame_mark}
use native.Mathlib.Omega.{arith}
use Rattle.frames.proofs.cells.frame_mark.Goals as goal

pub put_carriers-n-requires : goal.put_carriers-n-requires
put_carriers-n-requires c =
    let d : Drawable c.args.scene.now.floor c.args.scene.now.walls.now c.args.scene.now.own.now = search rules in
    ((check_tells _ _ d.checked).bounds.carriers.1, d.long, c.requires, omega arith)

pub still_mark-requires : goal.still_mark-requires
still_mark-requires c =
    let d : Drawable c.args.scene.now.floor c.args.scene.now.walls.now c.args.scene.now.own.now = search rules in
    d.checked

pub returns-in-0 : goal.returns-in-0
unfolding frame_mark
returns-in-0 c =
    c.still_mark.ensures ∙ sym (one_none _ _ _ c.put_carriers-n.ensures c.in-0.is)

pub returns-in-1 : goal.returns-in-1
unfolding frame_mark
returns-in-1 c =
    sym (one_only _ _ _ c.put_carriers-n.ensures c.in-1.is)

pub returns-in_default : goal.returns-in_default
unfolding frame_mark
returns-in_default c =
    sym (one_several _ _ _ c.put_carriers-n.ensures (omega arith))
