-- `stranded::lines::put_shut` meets its contract: four texts, one behind the other.
use Rattle.reporting.specs.Words.{carrier_words}
use Rattle.stranded.specs.Text.{shut_words}
use Rattle.stranded.proofs.LineLaws.{shut_put}
use Rattle.stranded.proofs.lines.put_shut.Goals as goal

pub returns : goal.returns
unfolding carrier_words shut_words
returns c =
    shut_put _ _ _ _ _ _ _ _ _ _ _ _ c.put_bytes-a.ensures c.put_bytes-b.ensures c.put_bytes-c.ensures c.put_by.ensures
    c.requires.1
