use Prim.Native.Nat.{◌-◌}
use Rattle.search.proofs.GroundLaws.{WallsLeft}
use Rattle.search.proofs.ground.free_rows.Given as goal

abbrev pub invariant-loop-j : goal.invariant-loop-j
invariant-loop-j l = WallsLeft l.w l.cells l.walls l.n l.j (l.n - l.j) l.rows
