-- `legality::beats::stands` meets its contract: invariant: the beats passed are at free cells.
use Rattle.legality.proofs.TestLaws.{beats}
use Rattle.legality.specs.Answers.{test_of}
use Rattle.route.specs.Route.{cell_at}
use Rattle.legality.specs.Tests.{cells_test}
use Rattle.legality.proofs.beats.stands.Goals as goal

pub loop-t-init : goal.loop-t-init
unfolding test_of cells_test cell_at
loop-t-init c = search beats

pub returns-then-not-is_free : goal.returns-then-not-is_free
unfolding test_of cells_test cell_at
returns-then-not-is_free c = search beats

pub loop-t-preserved : goal.loop-t-preserved
unfolding test_of cells_test cell_at
loop-t-preserved c = search beats

pub returns : goal.returns
unfolding test_of cells_test cell_at
returns c = search beats
