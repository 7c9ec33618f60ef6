use Prim.Native.Nat.{◌-◌, ◌≤◌}
use Rattle.passes.specs.Passes.{ForwardReachable}
use Rattle.passes.proofs.forward.forward.Given as goal

abbrev pub invariant-loop-g : goal.invariant-loop-g
invariant-loop-g l = (l.t ≤ l.g.horizon) × ForwardReachable l.g l.table l.start l.t l.sets

abbrev pub decreases-loop-g : goal.decreases-loop-g
decreases-loop-g l = l.g.horizon - l.t
