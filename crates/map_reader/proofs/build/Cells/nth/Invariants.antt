use Prim.Native.Nat.{◌≤◌}
use lib.ListN.{length}
use Rattle.map_reader.specs.Marks.{is_thing, cells_where}
use mathlib.Core.Path.{◌≡◌}
use Rattle.map_reader.proofs.build.Cells.nth.Given as goal

abbrev pub invariant-loop-c : goal.invariant-loop-c
invariant-loop-c l =
    (l.c ≤ (length l.self.marks.now)) × (l.before ≤ l.c) × (l.before ≤ l.k) × (l.before ≡ length (cells_where (is_thing l.self.marks.now l.self.table.now l.thing) l.c))
