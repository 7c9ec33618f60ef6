-- The run of a rank in a word.
use borrow.Author.Rules.{rules}
use Rattle.kalomivund.specs.Answers.{figures_done}
use Rattle.kalomivund.proofs.answers.ListedTold.told.Goals as goal

pub returns : goal.returns
unfolding figures_done
returns c = search rules
