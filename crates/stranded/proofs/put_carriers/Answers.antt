-- `stranded::put_carriers` meets its contract: the lines of the carriers passed stand in front.
use mathlib.Core.Path.{◌≡◌}
use borrow.Author.Rules.{rules}
use Rattle.laws.specs.Verdict.{passed}
use Rattle.floor.specs.Checks.{check_of}
use native.Mathlib.Omega.{arith}
use Rattle.floor.proofs.LimitsLaws.{check_tells}
use Rattle.reporting.proofs.LinesLaws.{lines_start, lines_low, lines_keep, lines_more, lines_end}
use Rattle.stranded.proofs.LineLaws.{carrier_short}
use Rattle.stranded.proofs.put_carriers.Goals as goal

pub loop-i-init : goal.loop-i-init
loop-i-init c =
    (search rules, lines_start _ 45 (carrier_short c.args.plan.now.floor c.args.plan.now.walls.now) _ _)

pub put_carrier-at-requires : goal.put_carrier-at-requires
put_carrier-at-requires c =
    let a : check_of c.args.plan.now.floor c.args.plan.now.walls.now ≡ passed = search rules in
    let few = (check_tells _ _ a).bounds.carriers.1 in
    let short = carrier_short c.args.plan.now.floor c.args.plan.now.walls.now in
    let e = c.loop-i.invariant.1 in
    let long = lines_keep _ 45 short _ _ _ _ _ e (omega (arith, c.requires, few, c.loop-i-test.true)) in
    (c.loop-i-test.true, omega (arith, long, c.requires, few, c.loop-i-test.true, lines_low _ 45 short _ _ _ _ _ e))

pub loop-i-preserved : goal.loop-i-preserved
loop-i-preserved c =
    let a : check_of c.args.plan.now.floor c.args.plan.now.walls.now ≡ passed = search rules in
    let few = (check_tells _ _ a).bounds.carriers.1 in
    let short = carrier_short c.args.plan.now.floor c.args.plan.now.walls.now in (
      omega (arith, c.loop-i-test.true),
      lines_more _ 45 short _ _ _ _ _ c.loop-i.invariant.1 _ _ c.put_carrier-at.ensures
          (omega (arith, c.requires, few, c.loop-i-test.true)),
    )

pub shape_of-out : goal.shape_of-out
shape_of-out c =
    let a : check_of c.args.plan.now.floor c.args.plan.now.walls.now ≡ passed = search rules in
    let few = (check_tells _ _ a).bounds.carriers.1 in
    let short = carrier_short c.args.plan.now.floor c.args.plan.now.walls.now in
    lines_keep _ 45 short _ _ _ _ _ c.loop-i.invariant.1 (omega (arith, c.requires, few, c.loop-i.invariant.0))

pub returns : goal.returns
returns c =
    let short = carrier_short c.args.plan.now.floor c.args.plan.now.walls.now in
    lines_end _ 45 short _ _ _ _ _ c.loop-i.invariant.1 _ c.loop-i.invariant.0 c.loop-i-test.false
