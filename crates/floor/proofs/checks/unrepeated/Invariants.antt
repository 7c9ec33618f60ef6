use Rattle.laws.specs.Verdict.{each}
use Rattle.floor.specs.Checks.{among}
use lib.ListN.{get_or}
use mathlib.Core.Bool.{true, not}
use mathlib.Core.Path.{◌≡◌}
use Prim.Native.Nat.{ℕ}
use Rattle.floor.proofs.checks.unrepeated.Given as goal

abbrev pub invariant-loop-k : goal.invariant-loop-k
invariant-loop-k l = each l.k (λ (j : ℕ). not (among l.docks j (get_or l.docks j 0))) ≡ true
