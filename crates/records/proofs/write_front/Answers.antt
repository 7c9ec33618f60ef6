-- `records::write_front` meets its contract: what is copied is stored in front.
use Rattle.records.proofs.LoadLaws.{stored_first}
use Rattle.records.proofs.write_front.Goals as goal

pub returns : goal.returns
returns c = stored_first _ _ _ c.copy_from_slice.ensures.after
