-- `kalomivund_print_routes` meets its contract: the printing, packed.
use Rattle.kalomivund.proofs.EntryLaws.{says_told}
use Rattle.abi.specs.Word.{of_number}
use Rattle.kalomivund.specs.Entries.{print_word, print_stored}
use Rattle.kalomivund.proofs.kalomivund_print_routes.Goals as goal

pub returns : goal.returns
unfolding print_word print_stored of_number
returns c = search says_told
