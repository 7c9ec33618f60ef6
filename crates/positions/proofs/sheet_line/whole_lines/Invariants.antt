-- `positions::sheet_line::whole_lines` meets its contract: a line has at least a byte.
use Prim.Native.Nat.{◌≤◌}
use Rattle.positions.proofs.sheet_line.whole_lines.Given as goal

abbrev pub invariant-loop-lines : goal.invariant-loop-lines
invariant-loop-lines l = (l.lines ≤ l.start) × (l.start ≤ l.end)
