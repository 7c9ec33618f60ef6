-- `state::checks::cells_valid` meets its contract: the cells that are used, then those behind.
use Rattle.state.proofs.EachLaws.{first_said, second_said}
use Rattle.state.proofs.NumbersLaws.{parts}
use Rattle.state.proofs.checks.cells_valid.Goals as goal

pub returns-then-all_below : goal.returns-then-all_below
returns-then-all_below c =
    second_said (parts _ _ _ _ _ c.min-n.ensures c.requires) c.all_below.ensures c.if-all_below.true c.all_below-then-all_below.ensures

pub returns-else-all_below : goal.returns-else-all_below
returns-else-all_below c =
    first_said _ (parts _ _ _ _ _ c.min-n.ensures c.requires) c.all_below.ensures c.if-all_below.false
