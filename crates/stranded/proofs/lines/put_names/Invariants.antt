use Prim.Native.Nat.{◌≤◌}
use Rattle.sheet.specs.Text.{lines_of}
use Rattle.reporting.specs.Put.{PutAt}
use Rattle.stranded.specs.Text.{name_of}
use Rattle.stranded.proofs.lines.put_names.Given as goal

abbrev pub invariant-loop-j : goal.invariant-loop-j
invariant-loop-j l = (l.j ≤ 8) × PutAt (lines_of (name_of l.set) l.j) l.initial.out l.at l.out l.end
