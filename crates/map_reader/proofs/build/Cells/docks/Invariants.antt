use Prim.Native.Nat.{◌≤◌}
use lib.ListN.{length}
use Rattle.map_reader.specs.Marks.{is_thing, cells_where}
use Rattle.map_reader.specs.Told.{Filled}
use mathlib.Core.Path.{◌≡◌}
use Prim.Native.Nat.{◌+◌, ◌/◌, ◌%◌}
use lib.ListN.{get_or}
use Rattle.map_reader.proofs.build.Cells.docks.Given as goal

abbrev pub invariant-loop-p : goal.invariant-loop-p
invariant-loop-p l =
    (l.p ≤ 32) × (length l.found ≡ 32) × Filled (λ j. get_or (cells_where (is_thing l.self.marks.now l.self.table.now (8 + j / 4)) (length l.self.marks.now)) (j % 4) 0) l.found l.p
