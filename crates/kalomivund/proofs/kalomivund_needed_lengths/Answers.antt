-- `kalomivund_needed_lengths` meets its contract: the needed lengths of the floor that the numbers say.
use Rattle.kalomivund.proofs.EntryLaws.{too_short}
use Rattle.kalomivund.proofs.LengthsLaws.{lengths_lent}
use Rattle.kalomivund.specs.Entries.{needed_word, needed_stored}
use Rattle.kalomivund.proofs.kalomivund_needed_lengths.Goals as goal

pub returns-then-f-lt54 : goal.returns-then-f-lt54
unfolding needed_word needed_stored
returns-then-f-lt54 c = search too_short

pub returns-in-Ok : goal.returns-in-Ok
unfolding needed_word needed_stored
returns-in-Ok c = rw (← c.floor_of.ensures) (search lengths_lent)

pub returns-in-Err : goal.returns-in-Err
unfolding needed_word needed_stored
returns-in-Err c =
    let word = rw c.number.ensures at c.refused.ensures in
    rw (← c.floor_of.ensures) (search lengths_lent)
