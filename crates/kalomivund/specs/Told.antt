-- What each type of answer of the code tells in a word: its case and number.
use Rattle.std.specs.Prelude.{ℕ, Option}
use Rattle.route.specs.declared.Conflict.{Conflict}
use Rattle.route.specs.ConflictTest.{conflict_told}
use Rattle.planner.specs.Answers.{failing_meant}
use Rattle.steps.specs.declared.Taken.{Taken}
use Rattle.machine.specs.declared.runs.Run.{Run}
use Rattle.machine.specs.Answers.{step_told, run_told}
use Rattle.lister.specs.declared.Listed.{Listed}
use Rattle.lister.specs.Entry.{figures_told}
use Rattle.legality.specs.declared.Record.{Record}
use Rattle.legality.specs.Answers.{record_meant}
use Rattle.abi.specs.Word.{Done, done}
use Rattle.kalomivund.specs.Answers.{told_done, figures_done, conflict_done, record_done}

-- A plan: case 0 with the failing carrier.
abbrev pub plan_tells : Option ℕ → Done
plan_tells x = done 0 (failing_meant x)

-- A step and a run.
abbrev pub step_tells : Taken → Done
step_tells x = told_done (step_told x)

abbrev pub run_tells : Run → Done
run_tells x = told_done (run_told x)

-- The run of a rank.
abbrev pub listed_tells : Listed → Done
listed_tells x = figures_done (figures_told x)

-- The conflict test.
abbrev pub conflict_tells : Option Conflict → Done
conflict_tells x = conflict_done (conflict_told x)

-- The check of a record.
abbrev pub record_tells : Record → Done
record_tells x = record_done (record_meant x)
