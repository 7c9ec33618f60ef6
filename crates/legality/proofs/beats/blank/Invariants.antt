use Rattle.laws.specs.Verdict.{passed, demand_each}
use Rattle.legality.specs.Tests.{zero_at}
use mathlib.Core.Path.{◌≡◌}
use Prim.Native.Nat.{◌-◌, ◌≤◌}
use Rattle.legality.proofs.beats.blank.Given as goal

abbrev pub invariant-loop-t : goal.invariant-loop-t
invariant-loop-t l = (l.from ≤ l.t) × (demand_each 7 l.from (zero_at l.r l.from) (l.t - l.from) ≡ passed)
