-- `kalomivund_check_record` meets its contract: what the record is on the floor that the numbers say, packed.
use Rattle.kalomivund.proofs.EntryLaws.{too_short, packed_answers}
use Rattle.kalomivund.specs.Answers.{of_record}
use Rattle.kalomivund.specs.Entries.{record_word}
use Rattle.kalomivund.proofs.kalomivund_check_record.Goals as goal

pub returns-then-f-lt54 : goal.returns-then-f-lt54
unfolding record_word of_record
returns-then-f-lt54 c = search too_short

pub returns : goal.returns
unfolding record_word of_record
returns c = rw (← c.floor_of.ensures) (search packed_answers)
