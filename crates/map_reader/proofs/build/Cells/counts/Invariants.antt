use Prim.Native.Nat.{◌≤◌}
use lib.ListN.{length}
use Rattle.map_reader.specs.Marks.{is_thing, cells_where}
use Rattle.map_reader.specs.Told.{Filled}
use mathlib.Core.Path.{◌≡◌}
use Prim.Native.Nat.{◌+◌}
use Rattle.map_reader.proofs.build.Cells.counts.Given as goal

abbrev pub invariant-loop-i : goal.invariant-loop-i
invariant-loop-i l =
    (l.i ≤ 8) × (length l.found ≡ 8) × Filled (λ j. length (cells_where (is_thing l.self.marks.now l.self.table.now (8 + j)) (length l.self.marks.now))) l.found l.i
