-- `passes::docks::hold_docks` meets its contract. The loop's invariant: the beats of the docks passed are found.
-- Assumes nothing.
use Rattle.bitrows.proofs.FillLaws.{filled_none, filled_more}
use Rattle.passes.proofs.EndsLaws.{held_made}
use native.Mathlib.Omega.{arith}
use Rattle.passes.proofs.docks.hold_docks.Goals as goal

pub loop-d-init : goal.loop-d-init
loop-d-init c = filled_none _ _

pub bounds-cells-d : goal.bounds-cells-d
bounds-cells-d c =
    omega (arith, c.loop-d-test.true, c.requires.3.few)

pub hold_from-requires : goal.hold_from-requires
hold_from-requires c =
    let p = c.requires in
    (p.0, p.1, p.2, p.3.inside _ c.loop-d-test.true)

pub bounds-holds-d : goal.bounds-holds-d
bounds-holds-d c =
    omega (arith, c.loop-d-test.true, c.requires.3.few)

pub loop-d-preserved : goal.loop-d-preserved
loop-d-preserved c =
    filled_more _ _ _ _ _ c.loop-d.invariant c.hold_from.ensures

pub returns : goal.returns
returns c =
    held_made _ _ _ _ _ _ (omega arith) c.loop-d-test.false c.loop-d.invariant
