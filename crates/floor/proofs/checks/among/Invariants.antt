use Rattle.floor.specs.Checks.{among}
use mathlib.Core.Bool.{false}
use mathlib.Core.Path.{◌≡◌}
use Rattle.floor.proofs.checks.among.Given as goal

abbrev pub invariant-loop-i : goal.invariant-loop-i
invariant-loop-i l = among l.xs l.i l.c ≡ false
