use Rattle.laws.specs.Verdict.{passed, demand_each}
use Rattle.route.specs.Moves.{near}
use lib.ListN.{get_or}
use mathlib.Core.Path.{◌≡◌}
use Prim.Native.Nat.{ℕ, ◌+◌}
use Rattle.legality.proofs.beats.moves.Given as goal

abbrev pub invariant-loop-t : goal.invariant-loop-t
invariant-loop-t l = demand_each 5 0 (λ (u : ℕ). near l.w (get_or l.r u 0) (get_or l.r (u + 1) 0)) l.t ≡ passed
