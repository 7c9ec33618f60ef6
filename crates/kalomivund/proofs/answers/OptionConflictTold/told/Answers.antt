-- The conflict test in a word: case by case.
use borrow.Author.Rules.{rules}
use Rattle.route.specs.ConflictTest.{conflict_told}
use Rattle.kalomivund.specs.Answers.{conflict_done}
use Rattle.kalomivund.proofs.answers.OptionConflictTold.told.Goals as goal

pub returns-in-None : goal.returns-in-None
unfolding conflict_done conflict_told
returns-in-None c = search rules

pub returns-in-Some-SameCell : goal.returns-in-Some-SameCell
unfolding conflict_done conflict_told
returns-in-Some-SameCell c = search rules

pub returns-in-Some-ChangeOfPlaces : goal.returns-in-Some-ChangeOfPlaces
unfolding conflict_done conflict_told
returns-in-Some-ChangeOfPlaces c = search rules

pub returns-in-Some-Following : goal.returns-in-Some-Following
unfolding conflict_done conflict_told
returns-in-Some-Following c = search rules
