use Rattle.laws.specs.Verdict.{passed, demand_each}
use Rattle.legality.specs.Inner.{free_on}
use lib.ListN.{get_or}
use mathlib.Core.Path.{◌≡◌}
use Prim.Native.Nat.{ℕ}
use Rattle.legality.proofs.beats.stands.Given as goal

abbrev pub invariant-loop-t : goal.invariant-loop-t
invariant-loop-t l = demand_each 4 0 (λ (u : ℕ). free_on l.f l.walls (get_or l.r u 0)) l.t ≡ passed
