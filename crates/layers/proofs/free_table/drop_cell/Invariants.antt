use Prim.Native.Nat.{◌<◌}
use mathlib.Core.Path.{◌≡◌}
use lib.ListN.{length}
use Rattle.layers.specs.declared.SearchGrid.{SearchGrid}
use Rattle.layers.specs.Table.{Grid, PlaceOf, Tidy}
use Rattle.layers.specs.FreeTable.{TakenCell}
use Rattle.layers.proofs.free_table.drop_cell.Given as goal

abbrev pub invariant-loop-t : goal.invariant-loop-t
invariant-loop-t l =
    (length l.table ≡ 2049) ×
    ((g : SearchGrid) → Grid g → l.c < g.cells → PlaceOf g l.c l.p → Tidy g l.initial.table → TakenCell g l.from l.t l.c l.initial.table l.table)
