use mathlib.Core.Path.{◌≡◌}
use lib.ListN.{get_or, replicate}
use Rattle.bitrows.specs.Rows.{filled}
use Rattle.passes.specs.Docks.{hold_of}
use Rattle.passes.proofs.docks.hold_docks.Given as goal

abbrev pub invariant-loop-d : goal.invariant-loop-d
invariant-loop-d l =
    l.holds ≡ filled (replicate 4 0) (λ j. hold_of l.g l.table (get_or l.cells j 0)) l.d
