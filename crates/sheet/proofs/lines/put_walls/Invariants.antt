use lib.ListN.{get_or}
use Rattle.sheet.specs.Text.{lines_of, wall_line}
use Rattle.laws.specs.Memory.{put}
use mathlib.Core.Path.{◌≡◌}
use Prim.Native.Nat.{ℕ}
use Rattle.sheet.proofs.lines.put_walls.Given as goal

abbrev pub invariant-loop-j : goal.invariant-loop-j
invariant-loop-j l = l.out ≡ put l.initial.out l.base (lines_of (λ (p : ℕ). wall_line l.width (get_or l.walls p 0)) l.j)
