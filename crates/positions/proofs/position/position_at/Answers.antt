-- `positions::position::position_at` meets its contract: the position is that of the byte reached.
use Rattle.positions.proofs.PositionLaws.{position_start, position_more}
use Rattle.positions.proofs.position.position_at.Goals as goal

pub loop-k-init : goal.loop-k-init
loop-k-init c = position_start _

pub loop-k-preserved : goal.loop-k-preserved
loop-k-preserved c =
    position_more c.loop-k.invariant c.byte_at.ensures c.behind-position.ensures
