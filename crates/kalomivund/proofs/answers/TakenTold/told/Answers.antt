-- A step in a word: case by case.
use borrow.Author.Rules.{rules}
use Rattle.steps.specs.Answers.{taken_meant}
use Rattle.kalomivund.specs.Answers.{told_done, step_case}
use Rattle.kalomivund.proofs.answers.TakenTold.told.Goals as goal

pub returns-in-Kept : goal.returns-in-Kept
unfolding told_done step_case taken_meant
returns-in-Kept c = search rules

pub returns-in-Sent : goal.returns-in-Sent
unfolding told_done step_case taken_meant
returns-in-Sent c = search rules

pub returns-in-Delivered : goal.returns-in-Delivered
unfolding told_done step_case taken_meant
returns-in-Delivered c = search rules
