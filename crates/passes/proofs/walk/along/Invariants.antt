use Prim.Native.Nat.{◌+◌, ◌<◌}
use mathlib.Core.Path.{◌≡◌}
use lib.ListN.{replicate}
use Rattle.bitrows.specs.Rows.{filled}
use Rattle.layers.specs.Table.{PlaceOf}
use Rattle.passes.specs.Walk.{path_of}
use Rattle.passes.proofs.walk.along.Given as goal

abbrev pub invariant-loop-t : goal.invariant-loop-t
invariant-loop-t l =
    (path_of l.g l.sets l.start l.a l.t < l.g.cells) × PlaceOf l.g (path_of l.g l.sets l.start l.a l.t) l.p
    × (l.r ≡ filled (replicate 64 0) (path_of l.g l.sets l.start l.a) (l.t + 1))
