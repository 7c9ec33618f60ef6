-- `kalomivund_arrival` meets its contract: the entry's answer, packed.
use Rattle.kalomivund.proofs.EntryLaws.{says_told}
use Rattle.abi.specs.Word.{of_number}
use Rattle.kalomivund.specs.Entries.{arrival_word}
use Rattle.kalomivund.proofs.kalomivund_arrival.Goals as goal

pub returns : goal.returns
unfolding arrival_word of_number
returns c = search says_told
