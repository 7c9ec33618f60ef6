-- `kalomivund_run_of_rank` meets its contract: the run of the floor that the numbers say, packed.
use Rattle.kalomivund.proofs.EntryLaws.{too_short, packed_answers}
use Rattle.kalomivund.specs.Answers.{of_rank}
use Rattle.kalomivund.specs.Entries.{rank_word, rank_stored}
use Rattle.kalomivund.proofs.kalomivund_run_of_rank.Goals as goal

pub returns-then-f-lt54 : goal.returns-then-f-lt54
unfolding rank_word rank_stored of_rank
returns-then-f-lt54 c = search too_short

pub returns : goal.returns
unfolding rank_word rank_stored of_rank
returns c = rw (← c.floor_of.ensures) (search packed_answers)
