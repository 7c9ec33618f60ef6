-- `kalomivund_write_sheet` meets its contract: the writing of the floor that the numbers say, packed with its length.
use Rattle.kalomivund.proofs.EntryLaws.{too_short, packed_answers}
use Rattle.abi.specs.Word.{of_number}
use Rattle.kalomivund.specs.Entries.{write_word, write_stored}
use Rattle.kalomivund.proofs.kalomivund_write_sheet.Goals as goal

pub returns-then-f-lt54 : goal.returns-then-f-lt54
unfolding write_word write_stored of_number
returns-then-f-lt54 c = search too_short

pub returns : goal.returns
unfolding write_word write_stored of_number
returns c = rw (← c.floor_of-found.ensures) (search packed_answers)
