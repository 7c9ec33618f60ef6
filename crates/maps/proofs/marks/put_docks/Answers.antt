-- `maps::marks::put_docks` meets its contract: the marks of the carriers passed stand behind the column.
use Rattle.reporting.proofs.LinesLaws.{lines_start, lines_low, lines_keep, lines_more, lines_end}
use Rattle.maps.specs.Map.{dock_marks}
use Rattle.maps.proofs.MarkLaws.{dock_short}
use native.Mathlib.Omega.{arith}
use borrow.Author.Rules.{rules}
use Rattle.maps.proofs.marks.put_docks.Goals as goal

pub loop-i-init : goal.loop-i-init
loop-i-init c =
    let short = dock_short c.args.f c.args.c in
    (search rules, lines_start _ 1 short _ _)

pub put_dock-end-requires : goal.put_dock-end-requires
put_dock-end-requires c =
    let short = dock_short c.args.f c.args.c in
    let e = c.loop-i.invariant.1 in
    let long = lines_keep _ 1 short _ _ _ _ _ e (omega (arith, c.requires.0.few, c.requires.1, c.loop-i-test.true)) in (
      c.requires.0,
      c.loop-i-test.true,
      omega (arith, long, c.requires.0.few, c.requires.1, c.loop-i-test.true, lines_low _ 1 short _ _ _ _ _ e),
    )

pub loop-i-preserved : goal.loop-i-preserved
loop-i-preserved c =
    let short = dock_short c.args.f c.args.c in (
      omega (arith, c.loop-i-test.true),
      lines_more _ 1 short _ _ _ _ _ c.loop-i.invariant.1 _ _ c.put_dock-end.ensures
          (omega (arith, c.requires.0.few, c.requires.1, c.loop-i-test.true)),
    )

pub shape_of-out : goal.shape_of-out
shape_of-out c =
    let short = dock_short c.args.f c.args.c in
    lines_keep _ 1 short _ _ _ _ _ c.loop-i.invariant.1 (omega (arith, c.requires.0.few, c.requires.1, c.loop-i.invariant.0))

pub returns : goal.returns
unfolding dock_marks
returns c =
    let short = dock_short c.args.f c.args.c in
    lines_end _ 1 short _ _ _ _ _ c.loop-i.invariant.1 _ c.loop-i.invariant.0 c.loop-i-test.false
