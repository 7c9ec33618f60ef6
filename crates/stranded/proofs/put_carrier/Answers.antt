-- `stranded::put_carrier` meets its contract: the tag of the plan tells whether there is a line.
use mathlib.Core.Path.{◌≡◌}
use borrow.Author.Rules.{rules}
use Rattle.laws.specs.Verdict.{passed}
use Rattle.floor.specs.Checks.{check_of}
use Rattle.blockers.specs.Inner.{PlanIn}
use native.Mathlib.Omega.{arith}
use Rattle.floor.proofs.LimitsLaws.{check_tells}
use Rattle.blockers.proofs.EntryLaws.{has_route, has_none}
use Rattle.stranded.proofs.LineLaws.{carrier_stranded, carrier_routed}
use Rattle.stranded.proofs.put_carrier.Goals as goal

pub bounds-plan-tag : goal.bounds-plan-tag
bounds-plan-tag c =
    let a : check_of c.args.plan.now.floor c.args.plan.now.walls.now ≡ passed = search rules in
    omega (arith, c.requires.0, (check_tells _ _ a).bounds.carriers)

pub returns-then-plan-tag-eq2 : goal.returns-then-plan-tag-eq2
returns-then-plan-tag-eq2 c =
    let a : check_of c.args.plan.now.floor c.args.plan.now.walls.now ≡ passed = search rules in
    let p : PlanIn c.args.plan.now.floor c.args.plan.now.walls.now c.args.plan.now.own.now = search rules in
    carrier_routed _ _ _ _ _ (has_route _ _ a p c.requires.0 c.if-plan-tag-eq2.true)

pub put_shut-requires : goal.put_shut-requires
put_shut-requires c =
    let a : check_of c.args.plan.now.floor c.args.plan.now.walls.now ≡ passed = search rules in
    (omega (arith, c.requires.0, (check_tells _ _ a).bounds.carriers), c.requires.1)

pub returns : goal.returns
returns c =
    let a : check_of c.args.plan.now.floor c.args.plan.now.walls.now ≡ passed = search rules in
    let p : PlanIn c.args.plan.now.floor c.args.plan.now.walls.now c.args.plan.now.own.now = search rules in
    carrier_stranded _ _ _ _ _ (has_none _ _ a p c.requires.0 c.if-plan-tag-eq2.false) _ _ _ c.set_for-set.ensures
    c.put_shut.ensures
