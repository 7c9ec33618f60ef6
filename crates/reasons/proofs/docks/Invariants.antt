-- `reasons::docks` is safe and ends: a carrier has at most 65,535 docks.
use Prim.Native.Nat.{◌*◌, ◌≤◌}
use lib.ListN.{length}
use Rattle.reasons.proofs.docks.Given as goal

abbrev pub invariant-loop-count : goal.invariant-loop-count
invariant-loop-count l = l.sum ≤ 65535 * length l.yielded
