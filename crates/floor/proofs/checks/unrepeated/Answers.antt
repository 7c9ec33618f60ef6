-- `floor::checks::unrepeated` meets its contract: invariant: no dock passed stands before in the list.
use borrow.Author.Rules.{rules}
use Rattle.laws.proofs.HoldLaws.{hold_more, hold_turn}
use Rattle.laws.proofs.CodeTests.{not_holds}
use mathlib.Core.Path.{◌≡◌}
use lib.ListN.{length}
use Rattle.floor.specs.Checks.{count_of, dock_of, unrepeated}
use Rattle.floor.proofs.checks.unrepeated.Goals as goal

pub loop-k-init : goal.loop-k-init
loop-k-init c = search hold_turn

pub bounds-docks-k : goal.bounds-docks-k
unfolding count_of
bounds-docks-k c = search rules

pub among-requires : goal.among-requires
unfolding count_of
among-requires c =
    let e : length c.four_docks-docks.result ≡ 4 = search rules in
    search rules

pub returns-then-among : goal.returns-then-among
unfolding unrepeated count_of dock_of
returns-then-among c = rw (← c.four_docks-docks.ensures) (search hold_turn)

pub loop-k-preserved : goal.loop-k-preserved
loop-k-preserved c = hold_more _ _ c.loop-k.invariant (not_holds c.among.ensures c.if-among.false)

pub returns : goal.returns
unfolding unrepeated count_of dock_of
returns c = rw (← c.four_docks-docks.ensures) (search hold_turn)
