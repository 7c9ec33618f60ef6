-- `kalomivund::answers::word` meets its contract: case by case.
use borrow.Author.Rules.{rules}
use Rattle.floor.specs.Answers.{outcome_by}
use Rattle.kalomivund.proofs.answers.word.Goals as goal

pub returns-in-Ok : goal.returns-in-Ok
unfolding outcome_by
returns-in-Ok g c = search rules

pub returns-in-Err : goal.returns-in-Err
unfolding outcome_by
returns-in-Err g c = search rules
