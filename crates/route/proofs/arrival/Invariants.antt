use Prim.Native.Nat.{◌≤◌}
use mathlib.Core.Path.{◌≡◌}
use Rattle.route.specs.Arrival.{settled}
use Rattle.route.proofs.arrival.Given as goal

abbrev pub invariant-loop-t : goal.invariant-loop-t
invariant-loop-t l = (l.a ≤ l.t) × (l.a ≡ settled l.end l.r l.t)
