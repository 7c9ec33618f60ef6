-- `legality::beats::blank` meets its contract: invariant: the numbers passed are 0.
use Rattle.legality.proofs.TestLaws.{blanks}
use Rattle.legality.specs.Answers.{test_of}
use Rattle.legality.specs.Tests.{blank_test}
use Rattle.legality.proofs.beats.blank.Goals as goal

pub loop-t-init : goal.loop-t-init
unfolding test_of blank_test
loop-t-init c = search blanks

pub returns-then-r-t-ne0 : goal.returns-then-r-t-ne0
unfolding test_of blank_test
returns-then-r-t-ne0 c = search blanks

pub loop-t-preserved : goal.loop-t-preserved
unfolding test_of blank_test
loop-t-preserved c = search blanks

pub returns : goal.returns
unfolding test_of blank_test
returns c = search blanks
