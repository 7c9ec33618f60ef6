-- `testkit::draws::draw_walls` counts no more walls than it went over cells.
use Rattle.std.proofs.Common.{◌≤◌}
use Rattle.testkit.proofs.draws.draw_walls.Given as goal

abbrev pub invariant-loop-c : goal.invariant-loop-c
invariant-loop-c l = l.count ≤ l.c
