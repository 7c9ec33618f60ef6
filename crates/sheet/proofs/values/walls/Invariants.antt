use Rattle.sheet.specs.Values.{cell_at_column, listed}
use lib.ListN.{drop}
use mathlib.Core.List.{◌++◌}
use mathlib.Core.Path.{◌≡◌}
use Prim.Native.Nat.{ℕ, ◌+◌, ◌*◌}
use Rattle.sheet.proofs.values.walls.Given as goal

abbrev pub invariant-loop-j : goal.invariant-loop-j
invariant-loop-j l = l.out ≡ listed (λ (p : ℕ). cell_at_column l.text l.width l.height (l.base + 11 * p)) l.j ++ drop l.j l.initial.out
