-- `floor::checks::docks_clear` meets its contract: invariant: no dock passed is a wall.
use borrow.Author.Rules.{rules}
use borrow.Author.Rules.{rules}
use Rattle.laws.proofs.HoldLaws.{hold_turn}
use Rattle.floor.specs.Checks.{count_of, dock_of, docks_clear}
use Rattle.floor.proofs.checks.docks_clear.Goals as goal

pub loop-k-init : goal.loop-k-init
unfolding count_of
loop-k-init c = search hold_turn

pub returns-then-is_wall : goal.returns-then-is_wall
unfolding docks_clear count_of dock_of
returns-then-is_wall c =
    rw (← c.docks_of-docks.ensures) (search hold_turn)

pub loop-k-preserved : goal.loop-k-preserved
unfolding count_of
loop-k-preserved c = search hold_turn

pub returns : goal.returns
unfolding docks_clear count_of dock_of
returns c =
    rw (← c.docks_of-docks.ensures) (search hold_turn)

pub bounds-docks-k : goal.bounds-docks-k
unfolding count_of
bounds-docks-k c = search rules
