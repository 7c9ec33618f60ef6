-- `meeting::put_meeting` meets its contract: by what the two searches found.
use Rattle.meeting.proofs.MeetingLaws.{first_there, first_digit_lem, second_there, second_digit, first_none, second_none, both_routes}
use native.Mathlib.Omega.{arith}
use Rattle.meeting.proofs.put_meeting.Goals as goal

pub alone-requires : goal.alone-requires
alone-requires c =
    (c.requires.0, first_there _ _ c.requires.0 _ _ c.requires.1)

pub put_none-requires : goal.put_none-requires
put_none-requires c =
    ((first_digit_lem _ _ c.requires.0 _ _ c.requires.1).1, omega (arith, c.requires.2))

pub returns-in_default : goal.returns-in_default
returns-in_default c =
    first_none _ _ _ _ _ _ _ c.alone.ensures c.in_default.is c.put_none.ensures

pub alone-requires-2 : goal.alone-requires-2
alone-requires-2 c =
    (c.requires.0, second_there _ _ c.requires.0 _ _ c.requires.1)

pub put_none-requires-in_default-alone : goal.put_none-requires-in_default-alone
put_none-requires-in_default-alone c =
    ((second_digit _ _ c.requires.0 _ _ c.requires.1).1, omega (arith, c.requires.2))

pub returns-in_default-alone : goal.returns-in_default-alone
returns-in_default-alone c =
    second_none _ _ _ _ _ _ _ _ c.alone.ensures c.in-Some.is _ c.alone-2.ensures c.in_default-alone.is c.put_none-in_default-alone.ensures

pub returns : goal.returns
returns c =
    both_routes _ _ _ _ _ _ _ _ c.alone.ensures c.in-Some.is _ _ c.alone-2.ensures c.in-Some-alone.is c.put_met.ensures
