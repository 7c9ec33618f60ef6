-- `steps::openness::is_silent` meets its contract: the plans first, then the deliveries.
use Rattle.state.proofs.EachLaws.{first_said, second_said}
use Rattle.steps.proofs.OpenLaws.{silent_is}
use Rattle.steps.proofs.openness.is_silent.Goals as goal

pub returns-then-plans_shut : goal.returns-then-plans_shut
returns-then-plans_shut c =
    second_said (silent_is _ _) c.plans_shut.ensures c.if-plans_shut.true c.deliveries_shut.ensures

pub returns-else-plans_shut : goal.returns-else-plans_shut
returns-else-plans_shut c = first_said _ (silent_is _ _) c.plans_shut.ensures c.if-plans_shut.false
