-- `trial::places::number_of` meets its contract: a case a kind of step; the carriers of a step that is there are below 8.
use Rattle.std.proofs.Common.{arith}
use Rattle.steps.specs.Answers.{step_meant}
use Rattle.steps.proofs.OpenLaws.{plan_there, deliver_there}
use Rattle.trial.specs.Report.{number_of}
use Rattle.trial.proofs.places.number_of.Goals as goal

pub plan_number-requires : goal.plan_number-requires
unfolding step_meant
plan_number-requires c =
    omega (arith, plan_there _ _ (rw c.in-Plan.is at c.requires.0))

pub delivery_number-requires : goal.delivery_number-requires
unfolding step_meant
delivery_number-requires c =
    let there = deliver_there _ _ _ (rw c.in-Deliver.is at c.requires.0) in
    (omega (arith, there.0, there.1, c.requires.1), omega (arith, there.1, c.requires.1))

pub returns-in-Plan : goal.returns-in-Plan
unfolding step_meant number_of
returns-in-Plan c = cc

pub returns-in-Deliver : goal.returns-in-Deliver
unfolding step_meant number_of
returns-in-Deliver c = cc
