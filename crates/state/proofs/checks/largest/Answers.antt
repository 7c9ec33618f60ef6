-- `state::checks::largest` meets its contract: the loop holds the largest so far.
use Rattle.state.proofs.NumbersLaws.{largest_more}
use Rattle.state.proofs.checks.largest.Goals as goal

pub loop-x-preserved : goal.loop-x-preserved
loop-x-preserved c = largest_more _ _ _ _ c.loop-x.invariant c.max-most.ensures
