-- `frames::put_beats` meets its contract: the beats passed stand behind the column.
use Rattle.frames.specs.Inner.{Drawable}
use Rattle.reporting.proofs.LinesLaws.{lines_start, lines_low, lines_keep, lines_more, lines_end}
use Rattle.floor.proofs.LimitsLaws.{check_tells}
use Rattle.records.specs.Records.{answer_in}
use Rattle.frames.proofs.FrameLaws.{next_short}
use native.Mathlib.Omega.{arith}
use borrow.Author.Rules.{rules}
use Rattle.frames.proofs.put_beats.Goals as goal

pub loop-t-init : goal.loop-t-init
loop-t-init c =
    let d : Drawable c.args.scene.now.floor c.args.scene.now.walls.now c.args.scene.now.own.now = search rules in
    let short = next_short _ _ d.checked (answer_in c.args.scene.now.own.now) in
    (search rules, lines_start _ 1065 short _ _)

pub put_next-end-requires : goal.put_next-end-requires
put_next-end-requires c =
    let d : Drawable c.args.scene.now.floor c.args.scene.now.walls.now c.args.scene.now.own.now = search rules in
    let short = next_short _ _ d.checked (answer_in c.args.scene.now.own.now) in
    let e = c.loop-t.invariant.1 in
    let long = lines_keep _ 1065 short _ _ _ _ _ e
    (omega (arith, c.requires, (check_tells _ _ d.checked).bounds.horizon.1, c.loop-t-test.true)) in (
      omega (arith, (check_tells _ _ d.checked).bounds.horizon.1, c.loop-t-test.true),
      omega (
        arith,
        long,
        c.requires,
        (check_tells _ _ d.checked).bounds.horizon.1,
        c.loop-t-test.true,
        lines_low _ 1065 short _ _ _ _ _ e,
      ),
    )

pub loop-t-preserved : goal.loop-t-preserved
loop-t-preserved c =
    let d : Drawable c.args.scene.now.floor c.args.scene.now.walls.now c.args.scene.now.own.now = search rules in
    let short = next_short _ _ d.checked (answer_in c.args.scene.now.own.now) in (
      omega (arith, c.loop-t-test.true),
      lines_more _ 1065 short _ _ _ _ _ c.loop-t.invariant.1 _ _ c.put_next-end.ensures
          (omega (arith, c.requires, (check_tells _ _ d.checked).bounds.horizon.1, c.loop-t-test.true)),
    )

pub shape_of-out : goal.shape_of-out
shape_of-out c =
    let d : Drawable c.args.scene.now.floor c.args.scene.now.walls.now c.args.scene.now.own.now = search rules in
    let short = next_short _ _ d.checked (answer_in c.args.scene.now.own.now) in
    lines_keep _ 1065 short _ _ _ _ _ c.loop-t.invariant.1
    (omega (arith, c.requires, (check_tells _ _ d.checked).bounds.horizon.1, c.loop-t.invariant.0))

pub returns : goal.returns
returns c =
    let d : Drawable c.args.scene.now.floor c.args.scene.now.walls.now c.args.scene.now.own.now = search rules in
    let short = next_short _ _ d.checked (answer_in c.args.scene.now.own.now) in
    lines_end _ 1065 short _ _ _ _ _ c.loop-t.invariant.1 _ c.loop-t.invariant.0 c.loop-t-test.false
