-- `kalomivund_ceiling` meets its contract: the ceiling, packed.
use Rattle.kalomivund.proofs.EntryLaws.{says_told}
use Rattle.abi.specs.Word.{of_number}
use Rattle.kalomivund.specs.Entries.{ceiling_word}
use Rattle.kalomivund.proofs.kalomivund_ceiling.Goals as goal

pub returns : goal.returns
unfolding ceiling_word of_number
returns c = search says_told
