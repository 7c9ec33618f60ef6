-- `conflict::conflict` meets its contract: 9 for either route, or the test of the 64 cells of both.
use borrow.Author.Rules.{rules}
use Rattle.floor.proofs.AnswersLaws.{met_passed}
use Rattle.floor.proofs.LimitsLaws.{length_passed}
use Rattle.conflict.proofs.EntryLaws.{first_short, second_short, both_lent}
use Rattle.conflict.proofs.conflict.Goals as goal

pub returns-in_err-check_length : goal.returns-in_err-check_length
returns-in_err-check_length c = search (first_short, c.in_err-check_length.ensures, rules)

pub returns-in_err-check_length-2 : goal.returns-in_err-check_length-2
returns-in_err-check_length-2 c = search (second_short, c.in_ok-check_length.ensures, c.in_err-check_length-2.ensures, rules)

pub load-requires : goal.load-requires
load-requires c = length_passed _ _ (met_passed c.in_ok-check_length.ensures)

pub load-requires-2 : goal.load-requires-2
load-requires-2 c = length_passed _ _ (met_passed c.in_ok-check_length-2.ensures)

pub returns : goal.returns
returns c =
    let found = rw (c.load.ensures, c.load-2.ensures) at c.first_conflict.ensures in
    both_lent _ _ _ _ _ _ c.in_ok-check_length.ensures c.in_ok-check_length-2.ensures found
