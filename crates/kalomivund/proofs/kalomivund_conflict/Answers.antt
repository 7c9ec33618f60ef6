-- `kalomivund_conflict` meets its contract: the entry's answer, packed.
use Rattle.kalomivund.proofs.EntryLaws.{says_told}
use Rattle.kalomivund.specs.Answers.{of_conflict}
use Rattle.kalomivund.specs.Entries.{conflict_word}
use Rattle.kalomivund.proofs.kalomivund_conflict.Goals as goal

pub returns : goal.returns
unfolding conflict_word of_conflict
returns c = search says_told
