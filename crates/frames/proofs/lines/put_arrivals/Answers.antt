-- `frames::lines::put_arrivals` meets its contract: the lines of the carriers passed stand behind the column.
use Rattle.reporting.proofs.LinesLaws.{lines_start, lines_low, lines_keep, lines_more, lines_end}
use Rattle.records.specs.Records.{answer_in}
use Rattle.frames.proofs.FrameLaws.{arrival_short}
use native.Mathlib.Omega.{arith}
use borrow.Author.Rules.{rules}
use Rattle.frames.proofs.lines.put_arrivals.Goals as goal

pub loop-i-init : goal.loop-i-init
loop-i-init c =
    let short = arrival_short c.args.f (answer_in c.args.own.now) in
    (search rules, lines_start _ 46 short _ _)

pub put_arrival-end-requires : goal.put_arrival-end-requires
put_arrival-end-requires c =
    let short = arrival_short c.args.f (answer_in c.args.own.now) in
    let e = c.loop-i.invariant.1 in
    let long = lines_keep _ 46 short _ _ _ _ _ e (omega (arith, c.requires.1, c.requires.3, c.loop-i-test.true)) in (
      c.requires.0,
      omega (arith, c.requires.1, c.loop-i-test.true),
      c.requires.2,
      omega (arith, long, c.requires.1, c.requires.3, c.loop-i-test.true, lines_low _ 46 short _ _ _ _ _ e),
    )

pub loop-i-preserved : goal.loop-i-preserved
loop-i-preserved c =
    let short = arrival_short c.args.f (answer_in c.args.own.now) in (
      omega (arith, c.loop-i-test.true),
      lines_more _ 46 short _ _ _ _ _ c.loop-i.invariant.1 _ _ c.put_arrival-end.ensures
          (omega (arith, c.requires.1, c.requires.3, c.loop-i-test.true)),
    )

pub shape_of-out : goal.shape_of-out
shape_of-out c =
    let short = arrival_short c.args.f (answer_in c.args.own.now) in
    lines_keep _ 46 short _ _ _ _ _ c.loop-i.invariant.1 (omega (arith, c.requires.1, c.requires.3, c.loop-i.invariant.0))

pub returns : goal.returns
returns c =
    let short = arrival_short c.args.f (answer_in c.args.own.now) in
    lines_end _ 46 short _ _ _ _ _ c.loop-i.invariant.1 _ c.loop-i.invariant.0 c.loop-i-test.false
