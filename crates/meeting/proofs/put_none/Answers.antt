-- `meeting::put_none` meets its contract.
use Rattle.reporting.specs.Words.{carrier_words}
use Rattle.meeting.specs.Text.{no_route_words, no_route_line}
use Rattle.meeting.proofs.MeetingLaws.{front_put}
use Rattle.meeting.proofs.put_none.Goals as goal

pub returns : goal.returns
unfolding no_route_line carrier_words no_route_words
returns c = front_put c.put_line.ensures
