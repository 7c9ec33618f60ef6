-- `meeting::alone` meets its contract: in memory of zeros nobody is heard.
use mathlib.Core.Path.{◌∙◌}
use Rattle.meeting.proofs.MeetingLaws.{alone_found, answers, answer_found}
use Rattle.meeting.proofs.alone.Goals as goal

pub unwrap-requires : goal.unwrap-requires
unwrap-requires c =
    answers _ ((rw c.blank.ensures at c.search.ensures) ∙ alone_found _ _ c.requires.0 _ c.requires.1)

pub returns : goal.returns
returns c =
    answer_found _ _ _ c.unwrap.ensures ((rw c.blank.ensures at c.search.ensures) ∙ alone_found _ _ c.requires.0 _ c.requires.1)
