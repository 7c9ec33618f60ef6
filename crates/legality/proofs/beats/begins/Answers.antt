-- `legality::beats::begins` meets its contract.
use Rattle.route.specs.Route.{cell_at}
use Rattle.floor.specs.Checks.{start_of}
use Rattle.legality.specs.Answers.{test_of}
use Rattle.laws.proofs.VerdictLaws.{demands}
use Rattle.legality.specs.Tests.{begin_test}
use Rattle.legality.proofs.beats.begins.Goals as goal

pub returns-then-r-f : goal.returns-then-r-f
unfolding test_of begin_test cell_at start_of
returns-then-r-f c = search demands

pub returns : goal.returns
unfolding test_of begin_test cell_at start_of
returns c = search demands
