use Prim.Native.Nat.{ℕ, ◌*◌}
use mathlib.Core.Path.{◌≡◌}
use lib.ListN.{length}
use Rattle.layers.specs.Table.{Rewritten}
use Rattle.layers.specs.Stripes.{stripes_of}
use Rattle.layers.proofs.stripes.save.Given as goal

abbrev pub invariant-loop-i : goal.invariant-loop-i
invariant-loop-i l =
    (length l.table ≡ length l.initial.table) × ((value : ℕ → ℕ) → l.x ≡ stripes_of value → Rewritten l.initial.table value l.at (4 * l.i) l.table)
