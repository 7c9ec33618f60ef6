-- A run in a word: case by case.
use borrow.Author.Rules.{rules}
use Rattle.machine.specs.Answers.{ending_meant}
use Rattle.kalomivund.specs.Answers.{told_done, end_case}
use Rattle.kalomivund.proofs.answers.RunTold.told.Goals as goal

pub returns-in-Silent : goal.returns-in-Silent
unfolding told_done end_case ending_meant
returns-in-Silent c = search rules

pub returns-in-Spent : goal.returns-in-Spent
unfolding told_done end_case ending_meant
returns-in-Spent c = search rules

pub returns-in-Ended : goal.returns-in-Ended
unfolding told_done end_case ending_meant
returns-in-Ended c = search rules
