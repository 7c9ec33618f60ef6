-- `meeting::put_conflict` meets its contract: case by case.
use Rattle.route.specs.ConflictTest.{conflict_told}
use Rattle.meeting.specs.Text.{free_line, same_cell_words, change_words, following_words, conflict_line}
use Rattle.meeting.proofs.MeetingLaws.{same_early, change_early, following_early, early_digits, found_is, line_case}
use native.Mathlib.Omega.{arith}
use Rattle.meeting.proofs.put_conflict.Goals as goal

pub put_line-requires : goal.put_line-requires
put_line-requires c =
    (early_digits (same_early c.requires.0 (found_is c.in-Some-SameCell.is (rw c.in-Some-SameCell.is at c.in-Some-SameCell.field-0-is))), omega (arith, c.requires.1))

pub put_line-requires-in-Some-ChangeOfPlaces : goal.put_line-requires-in-Some-ChangeOfPlaces
put_line-requires-in-Some-ChangeOfPlaces c =
    (early_digits (change_early c.requires.0 (found_is c.in-Some-ChangeOfPlaces.is (rw c.in-Some-ChangeOfPlaces.is at c.in-Some-ChangeOfPlaces.field-0-is))), omega (arith, c.requires.1))

pub put_line-requires-in-Some-Following : goal.put_line-requires-in-Some-Following
put_line-requires-in-Some-Following c =
    (early_digits (following_early c.requires.0 (found_is c.in-Some-Following.is (rw c.in-Some-Following.is at c.in-Some-Following.field-0-is))), omega (arith, c.requires.1))

pub returns-in-None : goal.returns-in-None
unfolding conflict_told conflict_line free_line
returns-in-None c = line_case _ _ _ _ _ c.in-None.is c.put_bytes.ensures

pub returns-in-Some-SameCell : goal.returns-in-Some-SameCell
unfolding conflict_told conflict_line same_cell_words
returns-in-Some-SameCell c =
    line_case _ _ _ _ _ (found_is c.in-Some-SameCell.is (rw c.in-Some-SameCell.is at c.in-Some-SameCell.field-0-is)) c.put_line.ensures

pub returns-in-Some-ChangeOfPlaces : goal.returns-in-Some-ChangeOfPlaces
unfolding conflict_told conflict_line change_words
returns-in-Some-ChangeOfPlaces c =
    line_case _ _ _ _ _ (found_is c.in-Some-ChangeOfPlaces.is (rw c.in-Some-ChangeOfPlaces.is at c.in-Some-ChangeOfPlaces.field-0-is)) c.put_line-in-Some-ChangeOfPlaces.ensures

pub returns-in-Some-Following : goal.returns-in-Some-Following
unfolding conflict_told conflict_line following_words
returns-in-Some-Following c =
    line_case _ _ _ _ _ (found_is c.in-Some-Following.is (rw c.in-Some-Following.is at c.in-Some-Following.field-0-is)) c.put_line-in-Some-Following.ensures
