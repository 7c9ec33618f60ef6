use Prim.Native.Nat.{◌≤◌}
use Rattle.passes.proofs.forward.nearest.Given as goal

abbrev pub invariant-loop-d : goal.invariant-loop-d
invariant-loop-d l = l.near ≤ l.g.horizon
