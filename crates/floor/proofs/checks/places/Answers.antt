-- `floor::checks::places` meets its contract: a chain of six checks.
use Rattle.floor.specs.Checks.{places_of}
use Rattle.floor.proofs.AnswersLaws.{chain, met_passed}
use Rattle.floor.proofs.WallSearchLaws.{passed_rising}
use Rattle.floor.proofs.DockLaws.{passed_counted}
use Rattle.floor.proofs.checks.places.Goals as goal

pub returns-in_err-carriers_inside : goal.returns-in_err-carriers_inside
unfolding places_of
returns-in_err-carriers_inside c = search (chain, c.in_err-carriers_inside.ensures) depth 7

pub returns-in_err-walls_inside : goal.returns-in_err-walls_inside
unfolding places_of
returns-in_err-walls_inside c = search (chain, c.in_ok-carriers_inside.ensures, c.in_err-walls_inside.ensures) depth 7

pub returns-in_err-rising : goal.returns-in_err-rising
unfolding places_of
returns-in_err-rising c = search (chain, c.in_ok-carriers_inside.ensures, c.in_ok-walls_inside.ensures, c.in_err-rising.ensures) depth 7

pub clear-requires-clause-counts_within : goal.clear-requires-clause-counts_within
clear-requires-clause-counts_within c = passed_counted _ (met_passed c.in_ok-carriers_inside.ensures)

pub clear-requires-clause-strictly_rising : goal.clear-requires-clause-strictly_rising
clear-requires-clause-strictly_rising c = passed_rising _ _ (met_passed c.in_ok-rising.ensures)

pub returns-in_err-clear : goal.returns-in_err-clear
unfolding places_of
returns-in_err-clear c = search (chain, c.in_ok-carriers_inside.ensures, c.in_ok-walls_inside.ensures, c.in_ok-rising.ensures, c.in_err-clear.ensures) depth 7

pub returns-in_err-apart : goal.returns-in_err-apart
unfolding places_of
returns-in_err-apart c =
    let apart = rw c.in_err-apart.was at c.distinct-apart.ensures in
    search (chain, c.in_ok-carriers_inside.ensures, c.in_ok-walls_inside.ensures, c.in_ok-rising.ensures, c.in_ok-clear.ensures, apart) depth 7

pub all_unrepeated-requires-clause-counts_within : goal.all_unrepeated-requires-clause-counts_within
all_unrepeated-requires-clause-counts_within c = passed_counted _ (met_passed c.in_ok-carriers_inside.ensures)

pub returns : goal.returns
unfolding places_of
returns c = search (chain, c.in_ok-carriers_inside.ensures, c.in_ok-walls_inside.ensures, c.in_ok-rising.ensures, c.in_ok-clear.ensures, rw c.in_ok-apart.was at c.distinct-apart.ensures) depth 7
