-- `legality::beats::route_test` meets its contract: a chain of five tests.
use Rattle.floor.specs.Checks.{in_grid}
use Rattle.search.specs.Task.{task_of}
use Rattle.legality.specs.Tests.{free_in, route_test}
use Rattle.legality.specs.Inner.{free_on}
use Rattle.legality.proofs.TestLaws.{test_chain}
use Rattle.legality.proofs.beats.route_test.Goals as goal

pub returns-in_err-begins : goal.returns-in_err-begins
unfolding route_test task_of free_in free_on in_grid
returns-in_err-begins c = search (test_chain, c.in_err-begins.ensures) depth 7

pub returns-in_err-stands : goal.returns-in_err-stands
unfolding route_test task_of free_in free_on in_grid
returns-in_err-stands c = search (test_chain, c.in_ok-begins.ensures, c.in_err-stands.ensures) depth 7

pub returns-in_err-moves : goal.returns-in_err-moves
unfolding route_test task_of free_in free_on in_grid
returns-in_err-moves c = search (test_chain, c.in_ok-begins.ensures, c.in_ok-stands.ensures, c.in_err-moves.ensures) depth 7

pub returns-in_err-ends : goal.returns-in_err-ends
unfolding route_test task_of free_in free_on in_grid
returns-in_err-ends c =
    search (test_chain, c.in_ok-begins.ensures, c.in_ok-stands.ensures, c.in_ok-moves.ensures, c.in_err-ends.ensures) depth 7

pub returns : goal.returns
unfolding route_test task_of free_in free_on in_grid
returns c =
    search (test_chain, c.in_ok-begins.ensures, c.in_ok-stands.ensures, c.in_ok-moves.ensures, c.in_ok-ends.ensures, c.blank.ensures) depth 7
