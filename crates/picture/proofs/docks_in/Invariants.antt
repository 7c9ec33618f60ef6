-- `picture::docks_in` meets its contract: the array keeps its length.
use mathlib.Core.Path.{◌≡◌}
use lib.ListN.{length}
use Rattle.picture.proofs.docks_in.Given as goal

abbrev pub invariant-loop-p : goal.invariant-loop-p
invariant-loop-p l = 32 ≡ length l.docks
