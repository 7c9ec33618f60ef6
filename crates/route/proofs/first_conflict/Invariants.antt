use mathlib.Core.Path.{◌≡◌}
use Rattle.route.specs.FirstConflict.{free}
use Rattle.route.specs.ConflictTest.{first_below}
use Rattle.route.proofs.first_conflict.Given as goal

abbrev pub invariant-loop-t : goal.invariant-loop-t
invariant-loop-t l = first_below l.last l.r l.q l.t ≡ free
