-- `passes::forward::nearest` meets its contract. The loop's invariant: what is nearest yet is not past the horizon.
-- Assumes nothing.
use native.Mathlib.Omega.{arith}
use Rattle.passes.proofs.forward.nearest.Goals as goal

pub bounds-ds-d : goal.bounds-ds-d
bounds-ds-d c =
    omega (arith, c.loop-d-test.true, c.requires.2.few)

pub manhattan-requires : goal.manhattan-requires
manhattan-requires c =
    let p = c.requires in
    (p.0, p.1, p.2.inside _ c.loop-d-test.true)
