use Rattle.laws.specs.Verdict.{demand_each, passed}
use mathlib.Core.Path.{◌≡◌}
use Rattle.steps.specs.Inner.{capacity_at}
use Rattle.steps.proofs.openness.first_full.Given as goal

abbrev pub invariant-loop-k : goal.invariant-loop-k
invariant-loop-k l = demand_each 13 1 (capacity_at l.s.floor.carriers l.s.floor.depth l.s.memory.now l.i) l.k ≡ passed
