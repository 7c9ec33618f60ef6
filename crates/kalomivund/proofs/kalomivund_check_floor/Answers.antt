-- `kalomivund_check_floor` meets its contract: the check of the floor that the numbers say, packed.
use Rattle.kalomivund.proofs.EntryLaws.{too_short, packed_answers}
use Rattle.abi.specs.Word.{of_number}
use Rattle.kalomivund.specs.Entries.{check_word}
use Rattle.kalomivund.proofs.kalomivund_check_floor.Goals as goal

pub returns-then-f-lt54 : goal.returns-then-f-lt54
unfolding check_word of_number
returns-then-f-lt54 c = search too_short

pub returns : goal.returns
unfolding check_word of_number
returns c = rw (← c.floor_of.ensures) (search packed_answers)
