-- `blockers::plan_own` meets its contract: memory for eight carriers is enough, so that the plan stands in front.
use Rattle.blockers.proofs.EntryLaws.{own_plan}
use Rattle.blockers.proofs.plan_own.Goals as goal

pub returns : goal.returns
returns c =
    own_plan _ _ c.requires _ _ c.blank-own.ensures c.plan.ensures.stores
