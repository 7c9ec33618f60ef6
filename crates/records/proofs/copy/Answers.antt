-- `records::copy` meets its contract: the part copied is the record moved.
use Rattle.records.proofs.LoadLaws.{moved_is}
use Rattle.records.proofs.copy.Goals as goal

pub returns : goal.returns
returns c = moved_is _ _ _ _ c.requires.0 c.copy_within.ensures.after
