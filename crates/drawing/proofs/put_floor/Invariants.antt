use Prim.Native.Nat.{◌+◌, ◌*◌, ◌≤◌}
use mathlib.Core.Path.{◌≡◌}
use Rattle.laws.specs.Memory.{put}
use Rattle.drawing.specs.Drawing.{drawn_bytes}
use Rattle.drawing.proofs.put_floor.Given as goal

abbrev pub invariant-loop-k : goal.invariant-loop-k
invariant-loop-k l =
    (l.n ≡ (l.f.width + 1) * l.f.height) × (l.n ≤ 1056) × (l.out ≡ put l.initial.out 0 (drawn_bytes l.f l.walls l.places l.k))
