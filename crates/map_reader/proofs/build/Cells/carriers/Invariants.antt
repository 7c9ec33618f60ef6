use Prim.Native.Nat.{◌≤◌}
use Rattle.map_reader.proofs.build.Cells.carriers.Given as goal

abbrev pub invariant-loop-i : goal.invariant-loop-i
invariant-loop-i l = (l.i ≤ 8) × (l.highest ≤ 8)
