-- `floor::checks::carrier_inside` meets its contract: the dock count decides, or the start does, or the docks do.
use Rattle.floor.specs.Checks.{carrier_in_grid, start_of, count_of}
use Rattle.floor.proofs.LimitsLaws.{within_means}
use Rattle.laws.proofs.CodeTests.{decides, code_holds}
use borrow.Author.Rules.{rules}
use Rattle.floor.proofs.checks.carrier_inside.Goals as goal

pub returns-then-not-counted : goal.returns-then-not-counted
unfolding carrier_in_grid start_of count_of
returns-then-not-counted c = search decides

pub returns-then-not-in_grid : goal.returns-then-not-in_grid
unfolding carrier_in_grid start_of count_of
returns-then-not-in_grid c = search decides

pub docks_inside-requires : goal.docks_inside-requires
unfolding count_of
docks_inside-requires c =
    let w = (within_means _ _ _).0 (code_holds c.counted.ensures c.if-not-counted.false-raw) in
    search rules

pub returns : goal.returns
unfolding carrier_in_grid start_of count_of
returns c = search decides
