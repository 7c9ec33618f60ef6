-- `blockers::find` meets its contract: the plan in memory of its own tells by a tag whether the carrier has a route; if not, its front is
-- stored, and the procedure leaves the set.
use Prim.Native.Nat.{◌-◌, ◌<◌}
use native.Mathlib.Omega.{arith}
use Rattle.floor.proofs.LimitsLaws.{check_tells}
use Rattle.floor.specs.Answers.{outcome_by}
use Rattle.blockers.proofs.EntryLaws.{carrier_granted, own_front, has_route, has_none, route_there, shut_in_lem}
use Rattle.blockers.proofs.find.Goals as goal

pub overflow_sub-i : goal.overflow_sub-i
overflow_sub-i c =
    omega (arith, (carrier_granted _ _ _ _ c.requires).listed)

pub plan_own-own-requires : goal.plan_own-own-requires
plan_own-own-requires c =
    (carrier_granted _ _ _ _ c.requires).checked

pub bounds-own-at : goal.bounds-own-at
bounds-own-at c =
    let g = carrier_granted _ _ _ _ c.requires in
    omega (arith, g.listed, (check_tells _ _ g.checked).bounds.carriers)

pub returns-then-own-at-eq2 : goal.returns-then-own-at-eq2
unfolding outcome_by
returns-then-own-at-eq2 c =
    let g = carrier_granted _ _ _ _ c.requires in
    let own = c.plan_own-own.ensures in
    let low : c.args.carrier - 1 < c.args.f.carriers = omega (arith, g.listed) in
    let both = route_there _ _ _ _ c.requires (has_route _ _ g.checked own low c.if-own-at-eq2.true) in
    record { answers = both.0; stores = both.1 }

pub slice_bounds-write_front-end : goal.slice_bounds-write_front-end
slice_bounds-write_front-end c =
    let g = carrier_granted _ _ _ _ c.requires in
    omega (arith, (check_tells _ _ g.checked).bounds.carriers, c.plan_own-own.ensures.long)

pub write_front-requires : goal.write_front-requires
write_front-requires c =
    omega (arith, (carrier_granted _ _ _ _ c.requires).enough)

pub set_for-requires : goal.set_for-requires
set_for-requires c =
    let g = carrier_granted _ _ _ _ c.requires in
    (g.checked, omega (arith, g.listed), c.plan_own-own.ensures)

pub returns : goal.returns
unfolding outcome_by
returns c =
    let g = carrier_granted _ _ _ _ c.requires in
    let own = c.plan_own-own.ensures in
    let low : c.args.carrier - 1 < c.args.f.carriers = omega (arith, g.listed) in
    let both = shut_in_lem _ _ _ _ c.requires (has_none _ _ g.checked own low c.if-own-at-eq2.false) _ _ c.set_for.ensures
    (own_front _ _ g.checked own _ _ c.write_front.ensures) in
    record { answers = both.0; stores = both.1 }
