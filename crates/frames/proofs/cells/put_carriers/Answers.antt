-- `frames::cells::put_carriers` meets its contract: the carriers passed stand in front.
use Rattle.reporting.proofs.LinesLaws.{lines_start, lines_low, lines_keep, lines_more, lines_end}
use Rattle.records.specs.Records.{answer_in}
use Rattle.frames.specs.Text.{present_in}
use Rattle.frames.proofs.CellLaws.{presents_short}
use native.Mathlib.Omega.{arith}
use borrow.Author.Rules.{rules}
use Rattle.frames.proofs.cells.put_carriers.Goals as goal

pub loop-i-init : goal.loop-i-init
loop-i-init c =
    let short = presents_short c.args.f (answer_in c.args.own.now) c.args.t c.args.c in
    (search rules, lines_start _ 1 short _ _)

pub put_carrier-end-requires : goal.put_carrier-end-requires
put_carrier-end-requires c =
    let short = presents_short c.args.f (answer_in c.args.own.now) c.args.t c.args.c in
    let e = c.loop-i.invariant.1 in
    let long = lines_keep _ 1 short _ _ _ _ _ e (omega (arith, c.requires.0, c.requires.3, c.loop-i-test.true)) in (
      c.requires.1,
      omega (arith, c.requires.0, c.loop-i-test.true),
      c.requires.2,
      omega (arith, long, c.requires.0, c.requires.3, c.loop-i-test.true, lines_low _ 1 short _ _ _ _ _ e),
    )

pub loop-i-preserved : goal.loop-i-preserved
loop-i-preserved c =
    let short = presents_short c.args.f (answer_in c.args.own.now) c.args.t c.args.c in (
      omega (arith, c.loop-i-test.true),
      lines_more _ 1 short _ _ _ _ _ c.loop-i.invariant.1 _ _ c.put_carrier-end.ensures
          (omega (arith, c.requires.0, c.requires.3, c.loop-i-test.true)),
    )

pub shape_of-out : goal.shape_of-out
shape_of-out c =
    let short = presents_short c.args.f (answer_in c.args.own.now) c.args.t c.args.c in
    lines_keep _ 1 short _ _ _ _ _ c.loop-i.invariant.1 (omega (arith, c.requires.0, c.requires.3, c.loop-i.invariant.0))

pub returns : goal.returns
unfolding present_in
returns c =
    let short = presents_short c.args.f (answer_in c.args.own.now) c.args.t c.args.c in
    lines_end _ 1 short _ _ _ _ _ c.loop-i.invariant.1 _ c.loop-i.invariant.0 c.loop-i-test.false
