-- `kalomivund_run` meets its contract: the run on the floor that the numbers say, packed.
use Rattle.kalomivund.proofs.EntryLaws.{too_short, packed_answers}
use Rattle.kalomivund.specs.Answers.{of_reply}
use Rattle.kalomivund.specs.Entries.{run_word, run_stored}
use Rattle.kalomivund.proofs.kalomivund_run.Goals as goal

pub returns-then-f-lt54 : goal.returns-then-f-lt54
unfolding run_word run_stored of_reply
returns-then-f-lt54 c = search too_short

pub returns : goal.returns
unfolding run_word run_stored of_reply
returns c = rw (← c.floor_of.ensures) (search packed_answers)
