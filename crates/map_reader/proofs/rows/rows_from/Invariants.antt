use Prim.Native.Nat.{◌+◌, ◌*◌, ◌-◌, ◌≤◌}
use lib.ListN.{length}
use mathlib.Core.Path.{◌≡◌}
use Rattle.reporting.specs.Put.{PutAt}
use Rattle.map_reader.specs.Told.{rows_in}
use Rattle.map_reader.proofs.rows.rows_from.Given as goal

abbrev pub invariant-loop-at : goal.invariant-loop-at
invariant-loop-at l =
    (l.height ≤ 32) × (l.cells ≤ 32 * l.height) × (l.at ≤ length l.text) × (l.at ≡ l.first + l.height * (l.w + 1))
    × PutAt (rows_in l.text l.first l.w l.height) l.initial.marks 0 l.marks l.cells

abbrev pub decreases-loop-at : goal.decreases-loop-at
decreases-loop-at l = length l.text - l.at
