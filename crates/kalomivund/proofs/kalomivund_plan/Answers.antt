-- `kalomivund_plan` meets its contract: the plan of the floor that the numbers say, packed.
use Rattle.kalomivund.proofs.EntryLaws.{too_short, packed_answers}
use Rattle.abi.specs.Word.{of_number}
use Rattle.kalomivund.specs.Entries.{plan_word, plan_stored}
use Rattle.kalomivund.proofs.kalomivund_plan.Goals as goal

pub returns-then-f-lt54 : goal.returns-then-f-lt54
unfolding plan_word plan_stored of_number
returns-then-f-lt54 c = search too_short

pub returns : goal.returns
unfolding plan_word plan_stored of_number
returns c = rw (← c.floor_of.ensures) (search packed_answers)
