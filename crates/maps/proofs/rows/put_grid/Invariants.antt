use Prim.Native.Nat.{◌≤◌}
use Rattle.sheet.specs.Text.{lines_of}
use Rattle.reporting.specs.Put.{PutAt}
use Rattle.maps.specs.Text.{row_of}
use Rattle.maps.proofs.rows.put_grid.Given as goal

abbrev pub invariant-loop-row : goal.invariant-loop-row
invariant-loop-row l = (l.row ≤ l.h) × PutAt (lines_of (row_of l.marks l.w) l.row) l.initial.out l.at l.out l.end
