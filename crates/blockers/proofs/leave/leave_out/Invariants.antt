use mathlib.Core.Path.{◌≡◌}
use lib.ListN.{length}
use Rattle.records.specs.Records.{records}
use Rattle.planner.specs.Plan.{respond_with}
use Rattle.blockers.specs.Blockers.{left_after}
use Rattle.blockers.proofs.leave.leave_out.Given as goal

abbrev pub invariant-loop-j : goal.invariant-loop-j
invariant-loop-j l =
    (length l.views ≡ length l.initial.views) × (records l.views l.i ≡ left_after (respond_with l.f l.free l.i) l.j (records l.initial.views l.i))
