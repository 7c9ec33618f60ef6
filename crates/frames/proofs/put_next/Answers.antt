-- `frames::put_next` meets its contract: an empty line, and the frame.
use borrow.Author.Rules.{rules}
use Rattle.frames.specs.Inner.{Drawable}
use Rattle.frames.proofs.FrameLaws.{next_put}
use native.Mathlib.Omega.{arith}
use Rattle.frames.proofs.put_next.Goals as goal

pub put_frame-requires : goal.put_frame-requires
put_frame-requires c =
    let p = c.put_bytes-n1 in
    (c.requires.0, omega (arith, c.requires.1, p.ensures.behind, p.auto))

pub returns : goal.returns
returns c =
    let d : Drawable c.args.scene.now.floor c.args.scene.now.walls.now c.args.scene.now.own.now = search rules in
    next_put _ _ d.checked _ _ _ _ _ _ _ _ c.put_bytes-n1.ensures c.put_frame.ensures c.requires.1
