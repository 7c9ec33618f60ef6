-- `steps::openness::waits` meets its contract: a case a kind of step; what is there has its carriers.
use Rattle.steps.proofs.OpenLaws.{plan_there, deliver_there}
use Rattle.steps.specs.Answers.{step_meant}
use Rattle.steps.proofs.openness.waits.Goals as goal

pub plan_waits-requires : goal.plan_waits-requires
unfolding step_meant
plan_waits-requires c =
    plan_there _ _ (rw c.in-Plan.is at c.requires.x_value)

pub delivery_waits-requires : goal.delivery_waits-requires
unfolding step_meant
delivery_waits-requires c =
    deliver_there _ _ _ (rw c.in-Deliver.is at c.requires.x_value)

pub returns-in-Plan : goal.returns-in-Plan
unfolding step_meant
returns-in-Plan c = rw c.in-Plan.is c.plan_waits.ensures

pub returns-in-Deliver : goal.returns-in-Deliver
unfolding step_meant
returns-in-Deliver c = rw c.in-Deliver.is c.delivery_waits.ensures
