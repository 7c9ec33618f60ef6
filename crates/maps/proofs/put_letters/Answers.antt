-- `maps::put_letters` meets its contract: the lines of the cells passed stand behind the column.
use Rattle.reporting.proofs.LinesLaws.{lines_start, lines_low, lines_keep, lines_more, lines_end}
use Rattle.maps.proofs.MapLaws.{letter_short}
use native.Mathlib.Omega.{arith}
use borrow.Author.Rules.{rules}
use Rattle.maps.proofs.put_letters.Goals as goal

pub loop-c-init : goal.loop-c-init
loop-c-init c =
    let short = letter_short c.args.f c.requires.0.few in
    (search rules, lines_start _ 19 short _ _)

pub put_letter-end-requires : goal.put_letter-end-requires
put_letter-end-requires c =
    let short = letter_short c.args.f c.requires.0.few in
    let e = c.loop-c.invariant.1 in
    let long = lines_keep _ 19 short _ _ _ _ _ e (omega (arith, c.requires.1, c.requires.2, c.loop-c-test.true)) in (
      c.requires.0,
      omega (arith, c.requires.1, c.loop-c-test.true),
      omega (arith, long, c.requires.1, c.requires.2, c.loop-c-test.true, lines_low _ 19 short _ _ _ _ _ e),
    )

pub loop-c-preserved : goal.loop-c-preserved
loop-c-preserved c =
    let short = letter_short c.args.f c.requires.0.few in (
      omega (arith, c.loop-c-test.true),
      lines_more _ 19 short _ _ _ _ _ c.loop-c.invariant.1 _ _ c.put_letter-end.ensures
          (omega (arith, c.requires.1, c.requires.2, c.loop-c-test.true)),
    )

pub shape_of-out : goal.shape_of-out
shape_of-out c =
    let short = letter_short c.args.f c.requires.0.few in
    lines_keep _ 19 short _ _ _ _ _ c.loop-c.invariant.1 (omega (arith, c.requires.1, c.requires.2, c.loop-c.invariant.0))

pub returns : goal.returns
returns c =
    let short = letter_short c.args.f c.requires.0.few in
    lines_end _ 19 short _ _ _ _ _ c.loop-c.invariant.1 _ c.loop-c.invariant.0 c.loop-c-test.false
