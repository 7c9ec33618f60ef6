-- `frames::lines::put_arrival` meets its contract: its number, and when it arrives.
use Rattle.reporting.specs.Words.{carrier_words}
use Rattle.frames.proofs.FrameLaws.{arrival_put}
use Rattle.frames.proofs.lines.put_arrival.Goals as goal

pub returns : goal.returns
unfolding carrier_words
returns c =
    arrival_put _ _ _ _ _ _ _ _ _ _ _ c.put_bytes-n1.ensures c.put_bytes-n2.ensures c.put_words.ensures c.requires.3
