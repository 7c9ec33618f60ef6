-- `sheet::values::walls` meets its contract: invariant: the walls passed stand in front, the rest of the memory is as it was.
use Rattle.sheet.proofs.ListedLaws.{lists, listed_store}
use Rattle.sheet.specs.Text.{wall_at}
use Rattle.sheet.specs.Values.{walls_from}
use native.Mathlib.Omega.{arith}
use Rattle.sheet.proofs.values.walls.Goals as goal

pub loop-j-init : goal.loop-j-init
loop-j-init c = search lists

pub loop-j-preserved : goal.loop-j-preserved
loop-j-preserved c = listed_store _ _ _ _ _ (omega arith) c.loop-j.invariant c.cell.ensures

pub returns : goal.returns
unfolding walls_from wall_at
returns c =
    rw (← c.walls_at-base.ensures.0) (search lists)
