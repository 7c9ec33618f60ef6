-- `kalomivund_fresh` meets its contract: the fresh state of the floor that the numbers say, packed.
use Rattle.kalomivund.proofs.EntryLaws.{too_short, packed_answers}
use Rattle.abi.specs.Word.{of_number}
use Rattle.kalomivund.specs.Entries.{fresh_word, fresh_stored}
use Rattle.kalomivund.proofs.kalomivund_fresh.Goals as goal

pub returns-then-f-lt54 : goal.returns-then-f-lt54
unfolding fresh_word fresh_stored of_number
returns-then-f-lt54 c = search too_short

pub returns : goal.returns
unfolding fresh_word fresh_stored of_number
returns c = rw (← c.floor_of.ensures) (search packed_answers)
