use Prim.Native.Nat.{◌≤◌}
use mathlib.Core.Path.{◌≡◌}
use lib.ListN.{drop}
use Rattle.records.specs.Records.{records}
use Rattle.blockers.specs.Blockers.{set_of}
use Rattle.blockers.proofs.leave.set_of.Given as goal

abbrev pub invariant-loop-j : goal.invariant-loop-j
invariant-loop-j l = (l.j ≤ l.k) × (l.set ≡ set_of (drop l.j (records l.views l.k)))
