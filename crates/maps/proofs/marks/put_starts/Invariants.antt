use Prim.Native.Nat.{◌≤◌}
use Rattle.sheet.specs.Text.{lines_of}
use Rattle.reporting.specs.Put.{PutAt}
use Rattle.maps.specs.Map.{start_mark}
use Rattle.maps.proofs.marks.put_starts.Given as goal

abbrev pub invariant-loop-i : goal.invariant-loop-i
invariant-loop-i l = (l.i ≤ l.n) × PutAt (lines_of (start_mark l.f l.c) l.i) l.initial.out l.at l.out l.end
