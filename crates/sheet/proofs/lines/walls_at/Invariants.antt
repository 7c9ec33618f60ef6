use Rattle.sheet.specs.Text.{carrier_at}
use mathlib.Core.Path.{◌≡◌}
use Prim.Native.Nat.{◌+◌, ◌*◌, ◌≤◌}
use Rattle.sheet.proofs.lines.walls_at.Given as goal

abbrev pub invariant-loop-i : goal.invariant-loop-i
invariant-loop-i l = (l.at ≡ carrier_at l.f l.i) × (l.at ≤ 31 + 700000 * l.i)
