-- `frames::lines::put_frame` meets its contract: a line with the number of the beat, and the rows.
use borrow.Author.Rules.{rules}
use Rattle.frames.specs.Inner.{Drawable}
use Rattle.reporting.proofs.WordsLaws.{short_within}
use Rattle.frames.specs.Text.{beat_words}
use Rattle.frames.proofs.FrameLaws.{frame_put}
use native.Mathlib.Omega.{arith}
use Rattle.frames.proofs.lines.put_frame.Goals as goal

pub put_short_decimal-n2-requires : goal.put_short_decimal-n2-requires
put_short_decimal-n2-requires c =
    let p = c.put_bytes-n1 in
    (omega (arith, c.requires.0), omega (arith, c.requires.1, p.ensures.behind, p.auto))

pub put_bytes-n3-requires : goal.put_bytes-n3-requires
put_bytes-n3-requires c =
    let d = short_within c.args.t in
    let p = c.put_bytes-n1 in
    let q = c.put_short_decimal-n2 in
    omega (arith, d, c.requires.1, p.ensures.behind, p.auto, q.ensures.behind, q.auto)

pub put_rows-requires : goal.put_rows-requires
put_rows-requires c =
    let d = short_within c.args.t in
    let p = c.put_bytes-n1 in
    let q = c.put_short_decimal-n2 in
    let r = c.put_bytes-n3 in (
      c.requires.0,
      omega (arith, d, c.requires.1, p.ensures.behind, p.auto, q.ensures.behind, q.auto, r.ensures.behind, r.auto),
    )

pub returns : goal.returns
unfolding beat_words
returns c =
    let d : Drawable c.args.scene.now.floor c.args.scene.now.walls.now c.args.scene.now.own.now = search rules in
    frame_put _ _ d.checked _ _ _ _ _ _ _ _ _ _ _ _ c.put_bytes-n1.ensures c.put_short_decimal-n2.ensures
    c.put_bytes-n3.ensures c.put_rows.ensures c.requires.1
