-- `planner::tags::failing` meets its contract: invariant: the first record without a route is not among those passed.
use Rattle.planner.proofs.FirstLaws.{firsts}
use Rattle.planner.proofs.tags.failing.Goals as goal

pub loop-i-init : goal.loop-i-init
loop-i-init c = search firsts

pub returns-then-answers-i-ne2 : goal.returns-then-answers-i-ne2
returns-then-answers-i-ne2 c = search firsts

pub loop-i-preserved : goal.loop-i-preserved
loop-i-preserved c = search firsts

pub returns : goal.returns
returns c = search firsts
