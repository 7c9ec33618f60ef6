-- `steps::taking::take` meets its contract: what the step does, and the step counted.
use native.Mathlib.Omega.{arith}
use Rattle.encoding.specs.Places.{state_size}
use Rattle.steps.proofs.TakeLaws.{counted_took}
use Rattle.steps.proofs.taking.take.Goals as goal

pub tick-requires : goal.tick-requires
unfolding state_size
tick-requires c =
    omega (arith, c.act-taken.auto.x, c.requires.placed.enough)

pub returns : goal.returns
returns c =
    counted_took _ _ _ c.act-taken.ensures c.tick.ensures
