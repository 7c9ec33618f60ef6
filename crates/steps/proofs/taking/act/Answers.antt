-- `steps::taking::act` meets its contract: a case a kind of step; what is open is there, and a plan has its free cells made.
use Rattle.steps.proofs.OpenLaws.{open_there, plan_there, deliver_there}
use Rattle.steps.proofs.PlacedLaws.{placed_sized}
use Rattle.steps.proofs.TakeLaws.{delivery_did}
use Rattle.steps.specs.Answers.{step_meant}
use Rattle.steps.specs.Inner.{RowsFor}
use Rattle.steps.proofs.taking.act.Goals as goal

pub plan_now-requires : goal.plan_now-requires
unfolding step_meant RowsFor
plan_now-requires c = record {
  i_lt_carriers = plan_there _ _ (open_there _ _ _ (rw c.in-Plan.is at c.requires.x_value));
  workable = record { placed = c.requires.placed; free = rw c.in-Plan.is at c.requires.rows_for };
}

pub deliver_now-requires : goal.deliver_now-requires
unfolding step_meant
deliver_now-requires c =
    let there = deliver_there _ _ _ (open_there _ _ _ (rw c.in-Deliver.is at c.requires.x_value)) in
    let sized = placed_sized c.requires.placed in
    (there.0, there.1, sized.0, sized.1)

pub returns-in-Plan : goal.returns-in-Plan
unfolding step_meant
returns-in-Plan c =
    rw c.in-Plan.is c.plan_now.ensures

pub returns-in-Deliver : goal.returns-in-Deliver
unfolding step_meant
returns-in-Deliver c =
    rw c.in-Deliver.is (delivery_did _ _ _ _ _ _ c.deliver_now.ensures)
