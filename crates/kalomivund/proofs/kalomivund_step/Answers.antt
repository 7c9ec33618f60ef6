-- `kalomivund_step` meets its contract: the step on the floor that the numbers say, packed.
use Rattle.kalomivund.proofs.EntryLaws.{too_short, packed_answers}
use Rattle.kalomivund.specs.Answers.{of_reply}
use Rattle.kalomivund.specs.Entries.{step_word, step_stored}
use Rattle.kalomivund.proofs.kalomivund_step.Goals as goal

pub returns-then-f-lt54 : goal.returns-then-f-lt54
unfolding step_word step_stored of_reply
returns-then-f-lt54 c = search too_short

pub returns : goal.returns
unfolding step_word step_stored of_reply
returns c = rw (← c.floor_of.ensures) (search packed_answers)
