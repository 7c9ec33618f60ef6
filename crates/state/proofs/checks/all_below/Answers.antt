-- `state::checks::all_below` meets its contract: all are below a bound exactly if the largest is.
use Rattle.state.proofs.NumbersLaws.{none_below, some_below}
use Rattle.state.proofs.checks.all_below.Goals as goal

pub returns-then-is_empty : goal.returns-then-is_empty
returns-then-is_empty c = none_below _ _ c.is_empty.ensures c.if-is_empty.true

pub returns-else-is_empty : goal.returns-else-is_empty
returns-else-is_empty c = some_below _ _ _ c.is_empty.ensures c.if-is_empty.false c.largest.ensures
