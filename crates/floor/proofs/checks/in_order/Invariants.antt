use Prim.Native.Nat.{ℕ, ◌<◌}
use mathlib.Core.Path.{◌≡◌}
use mathlib.Core.Bool.{Bool}
use Rattle.laws.specs.Verdict.{passed, demand_each}
use Rattle.floor.specs.Answers.{number_of}
use Rattle.floor.proofs.checks.in_order.Given as goal

abbrev pub invariant-loop-i : goal.invariant-loop-i
invariant-loop-i g l =
    (ok : ℕ → Bool) → ((i : ℕ) (b : Bool) → i < l.n → goal.F-post g l.passes i b → b ≡ ok i)
    → demand_each (number_of l.reason) l.first ok l.i ≡ passed
