-- `blockers::leave::leave_out` meets its contract: the carriers passed were tried.
use mathlib.Core.Path.{refl, ◌∙◌}
use Rattle.blockers.proofs.RecordLaws.{left_start, left_more, left_end}
use native.Mathlib.Omega.{arith}
use Rattle.blockers.proofs.leave.leave_out.Goals as goal

pub loop-j-init : goal.loop-j-init
loop-j-init c = (refl, left_start _ _)

pub loop-j-preserved : goal.loop-j-preserved
loop-j-preserved c = (
  c.try_without.auto.views ∙ c.loop-j.invariant.0,
  left_more _ _ _ _ _ c.loop-j.invariant.1 c.try_without.ensures,
)

pub returns : goal.returns
returns c =
    left_end _ _ _ _ _ (omega arith) c.loop-j-test.false c.loop-j.invariant.1
