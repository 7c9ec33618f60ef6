-- `floor::checks::docks_inside` meets its contract: invariant: the docks passed lie in the grid.
use borrow.Author.Rules.{rules}
use borrow.Author.Rules.{rules}
use Rattle.laws.proofs.HoldLaws.{hold_more, hold_turn}
use Rattle.laws.proofs.CodeTests.{code_holds}
use native.Mathlib.Omega.{arith}
use Rattle.floor.specs.Checks.{count_of, dock_of, docks_in_grid}
use Rattle.floor.proofs.checks.docks_inside.Goals as goal

pub loop-k-init : goal.loop-k-init
unfolding count_of
loop-k-init c = search hold_turn

pub returns-then-not-in_grid : goal.returns-then-not-in_grid
unfolding docks_in_grid count_of dock_of
returns-then-not-in_grid c =
    rw (← c.docks_of-docks.ensures) (search hold_turn)

pub loop-k-preserved : goal.loop-k-preserved
loop-k-preserved c =
    (omega arith, hold_more _ _ c.loop-k.invariant.1 (code_holds c.in_grid.ensures c.if-not-in_grid.false-raw))

pub returns : goal.returns
unfolding docks_in_grid count_of dock_of
returns c =
    rw (← c.docks_of-docks.ensures) (search hold_turn)

pub bounds-docks-k : goal.bounds-docks-k
unfolding count_of
bounds-docks-k c = search rules
