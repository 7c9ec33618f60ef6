-- `meeting::put_pair` meets its contract: the carriers' verdict decides between the meeting and the refusal's line.
use mathlib.Core.Path.{sym}
use lib.Seq.{length-take-le}
use Rattle.floor.proofs.AnswersLaws.{passes, refuses}
use Rattle.meeting.proofs.MeetingLaws.{pair_place, pair_put, pair_refused}
use native.Mathlib.Omega.{arith}
use Rattle.meeting.proofs.put_pair.Goals as goal

pub slice_bounds-put_meeting-end : goal.slice_bounds-put_meeting-end
slice_bounds-put_meeting-end c =
    sym (length-take-le _ _ c.requires.walls_in_bounds.0)

pub put_meeting-requires : goal.put_meeting-requires
put_meeting-requires c =
    (c.requires.walls_value, passes c.pair_listed.ensures c.in-Ok.is, c.requires.walls_in_bounds.1)

pub returns-in-Ok : goal.returns-in-Ok
returns-in-Ok c =
    pair_put _ _ _ _ _ _ _ (passes c.pair_listed.ensures c.in-Ok.is)
    c.put_meeting.ensures

pub put_refusal-requires : goal.put_refusal-requires
put_refusal-requires c =
    let zero = pair_place _ _ _ _ _ (refuses c.pair_listed.ensures c.in-Err.is) in
    (omega arith, omega (arith, c.requires.walls_in_bounds.1))

pub returns-in-Err : goal.returns-in-Err
returns-in-Err c =
    pair_refused _ _ _ _ _ _ _ _ _ (refuses c.pair_listed.ensures c.in-Err.is)
    (rw c.number.ensures at c.put_refusal.ensures)
