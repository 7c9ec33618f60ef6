use lib.ListN.{length}
use Prim.Native.Nat.{◌≤◌}
use Rattle.reporting.specs.Put.{PutAt}
use Rattle.map_reader.specs.Marks.{is_wall, cells_where}
use Rattle.map_reader.proofs.build.put_walls.Given as goal

abbrev pub invariant-loop-c : goal.invariant-loop-c
invariant-loop-c l = (l.c ≤ length l.marks) × PutAt (cells_where (is_wall l.marks) l.c) l.initial.walls 0 l.walls l.found
