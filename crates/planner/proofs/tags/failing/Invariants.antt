use Rattle.planner.specs.Records.{first_from}
use mathlib.Core.Path.{◌≡◌}
use Prim.Native.Nat.{◌-◌}
use Rattle.planner.proofs.tags.failing.Given as goal

abbrev pub invariant-loop-i : goal.invariant-loop-i
invariant-loop-i l = first_from l.answers 0 l.n ≡ first_from l.answers l.i (l.n - l.i)
