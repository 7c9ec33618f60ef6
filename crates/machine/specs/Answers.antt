-- What each case of the code's answers says in document 01's terms.
use Rattle.std.specs.Prelude.{ℕ, Result, Ok, Err}
use Rattle.floor.specs.declared.Refusal.{Refusal}
use Rattle.floor.specs.Answers.{outcome_by}
use Rattle.reference.specs.Ending.{RunEnding, silent, spent, ended}
use Rattle.reference.specs.Calls.{CallAnswer, Reply, stepped, ran}
use Rattle.steps.specs.declared.Taken.{Taken}
use Rattle.steps.specs.Answers.{taken_meant}
use Rattle.machine.specs.declared.runs.Ending.{Ending}
use Rattle.machine.specs.declared.runs.Ending.TheVariants.{Silent, Spent, Ended}
use Rattle.machine.specs.declared.runs.Run.{Run}

-- The answer to a single step: what it tells, or the refusal.
abbrev pub step_told : Taken → CallAnswer
step_told x = stepped (taken_meant x)

abbrev pub stepped_reply : Result Taken Refusal → Reply
stepped_reply x = outcome_by step_told x

-- How a run ended.
unfoldable pub ending_meant : Ending → RunEnding
ending_meant Silent = silent
ending_meant Spent = spent
ending_meant Ended = ended

-- The answer to a run: the number taken and how it ended, or the refusal.
abbrev pub run_told : Run → CallAnswer
run_told x = ran x.taken (ending_meant x.ending)

abbrev pub ran_reply : Result Run Refusal → Reply
ran_reply x = outcome_by run_told x

-- The number of steps that a run returns; a refused one takes none.
unfoldable pub taken_number : Result Run Refusal → ℕ
taken_number (Ok x) = x.taken
taken_number (Err r) = 0
