-- The check of a record in a word: case by case.
use borrow.Author.Rules.{rules}
use Rattle.legality.specs.Answers.{record_meant}
use Rattle.kalomivund.specs.Answers.{record_done}
use Rattle.kalomivund.proofs.answers.RecordTold.told.Goals as goal

pub returns-in-Route : goal.returns-in-Route
unfolding record_done record_meant
returns-in-Route c = search rules

pub returns-in-None : goal.returns-in-None
unfolding record_done record_meant
returns-in-None c = search rules

pub returns-in-NotHeard : goal.returns-in-NotHeard
unfolding record_done record_meant
returns-in-NotHeard c = search rules

pub returns-in-Wrong : goal.returns-in-Wrong
unfolding record_done record_meant
returns-in-Wrong c = search rules
