-- `meeting::put_drawing` meets its contract: case by case.
use Rattle.route.specs.ConflictTest.{conflict_told}
use Rattle.meeting.specs.Text.{conflict_drawing}
use Rattle.meeting.proofs.MeetingLaws.{same_early, change_early, following_early, found_is, nothing_put, drawing_case}
use Rattle.meeting.proofs.put_drawing.Goals as goal

pub put_beat-requires : goal.put_beat-requires
put_beat-requires c =
    (same_early c.requires.early.0 (found_is c.in-Some-SameCell.is (rw c.in-Some-SameCell.is at c.in-Some-SameCell.field-0-is)), c.requires.early.1)

pub put_beat-requires-in-Some-ChangeOfPlaces : goal.put_beat-requires-in-Some-ChangeOfPlaces
put_beat-requires-in-Some-ChangeOfPlaces c =
    (change_early c.requires.early.0 (found_is c.in-Some-ChangeOfPlaces.is (rw c.in-Some-ChangeOfPlaces.is at c.in-Some-ChangeOfPlaces.field-0-is)), c.requires.early.1)

pub put_beat-requires-in-Some-Following : goal.put_beat-requires-in-Some-Following
put_beat-requires-in-Some-Following c =
    (following_early c.requires.early.0 (found_is c.in-Some-Following.is (rw c.in-Some-Following.is at c.in-Some-Following.field-0-is)), c.requires.early.1)

pub returns-in-None : goal.returns-in-None
unfolding conflict_told conflict_drawing
returns-in-None c = drawing_case _ _ _ _ _ _ _ _ _ _ _ c.in-None.is (nothing_put _)

pub returns-in-Some-SameCell : goal.returns-in-Some-SameCell
unfolding conflict_told conflict_drawing
returns-in-Some-SameCell c =
    drawing_case _ _ _ _ _ _ _ _ _ _ _ (found_is c.in-Some-SameCell.is (rw c.in-Some-SameCell.is at c.in-Some-SameCell.field-0-is)) c.put_beat.ensures

pub returns-in-Some-ChangeOfPlaces : goal.returns-in-Some-ChangeOfPlaces
unfolding conflict_told conflict_drawing
returns-in-Some-ChangeOfPlaces c =
    drawing_case _ _ _ _ _ _ _ _ _ _ _ (found_is c.in-Some-ChangeOfPlaces.is (rw c.in-Some-ChangeOfPlaces.is at c.in-Some-ChangeOfPlaces.field-0-is)) c.put_beat-in-Some-ChangeOfPlaces.ensures

pub returns-in-Some-Following : goal.returns-in-Some-Following
unfolding conflict_told conflict_drawing
returns-in-Some-Following c =
    drawing_case _ _ _ _ _ _ _ _ _ _ _ (found_is c.in-Some-Following.is (rw c.in-Some-Following.is at c.in-Some-Following.field-0-is)) c.put_beat-in-Some-Following.ensures
