use mathlib.Core.Path.{◌≡◌}
use Rattle.drawing.specs.Drawing.{carrier_mark}
use Rattle.drawing.proofs.carrier_mark.Given as goal

abbrev pub invariant-loop-k : goal.invariant-loop-k
invariant-loop-k l = l.mark ≡ carrier_mark l.places l.c l.k
