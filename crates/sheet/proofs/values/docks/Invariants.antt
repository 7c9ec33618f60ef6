use Rattle.sheet.specs.Values.{cell_at_column, up_to, listed}
use mathlib.Core.Path.{◌≡◌}
use Prim.Native.Nat.{ℕ, ◌+◌, ◌*◌}
use Rattle.sheet.proofs.values.docks.Given as goal

abbrev pub invariant-loop-k : goal.invariant-loop-k
invariant-loop-k l = l.found ≡ listed (up_to l.k (λ (p : ℕ). cell_at_column l.text l.f.width l.f.height (l.at + 10 * p))) 4
