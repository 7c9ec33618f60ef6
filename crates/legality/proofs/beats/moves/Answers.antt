-- `legality::beats::moves` meets its contract: invariant: the moves passed are stays or across a side.
use Rattle.legality.proofs.TestLaws.{beats}
use Rattle.legality.specs.Answers.{test_of}
use Rattle.route.specs.Route.{cell_at}
use Rattle.legality.specs.Tests.{moves_test}
use Rattle.legality.proofs.beats.moves.Goals as goal

pub loop-t-init : goal.loop-t-init
unfolding test_of moves_test cell_at
loop-t-init c = search beats

pub returns-then-not-near : goal.returns-then-not-near
unfolding test_of moves_test cell_at
returns-then-not-near c = search beats

pub loop-t-preserved : goal.loop-t-preserved
unfolding test_of moves_test cell_at
loop-t-preserved c = search beats

pub returns : goal.returns
unfolding test_of moves_test cell_at
returns c = search beats
