use Rattle.laws.specs.Verdict.{each}
use Rattle.floor.specs.Checks.{among}
use lib.ListN.{get_or}
use mathlib.Core.Bool.{true, not}
use mathlib.Core.Path.{◌≡◌}
use Prim.Native.Nat.{ℕ, ◌-◌, ◌≤◌}
use Rattle.floor.proofs.checks.docks_clear.Given as goal

abbrev pub invariant-loop-k : goal.invariant-loop-k
invariant-loop-k l = (l.k ≤ l.n) × (each l.k (λ (j : ℕ). not (among l.walls l.count (get_or l.docks j 0))) ≡ true)

abbrev pub decreases-loop-k : goal.decreases-loop-k
decreases-loop-k l = l.n - l.k
