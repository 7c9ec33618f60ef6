-- What the code's answers say: for each case its number and values.
use Rattle.std.specs.Prelude.{ℕ, ⊤, Result, Ok, Err}
use Rattle.laws.specs.Verdict.{Verdict, passed, refused, Outcome}
use Rattle.floor.specs.declared.Refusal.{Refusal}
use Rattle.floor.specs.Answers.{outcome_by}
use Rattle.legality.specs.declared.Cause.{Cause}
use Rattle.legality.specs.declared.Cause.TheVariants.{Start, Cell, Move, End, Unused, Tag}
use Rattle.legality.specs.declared.Fault.{Fault}
use Rattle.legality.specs.declared.Record.{Record}
use Rattle.legality.specs.declared.Record.TheVariants.{Route, None, NotHeard, Wrong}
use Rattle.legality.specs.Entry.{RecordAnswer, a_route, a_none, not_heard, wrong}

-- The number of a cause.
abbrev pub cause_number : Cause → ℕ
cause_number Start = 3
cause_number Cell = 4
cause_number Move = 5
cause_number End = 6
cause_number Unused = 7
cause_number Tag = 8

-- A test that finds nothing says nothing; one that fails says its cause's number and its first beat.
unfoldable pub test_of : Result ⊤ Fault → Verdict
test_of (Ok _) = passed
test_of (Err x) = refused (cause_number x.cause) x.beat

-- What each case of a record says.
unfoldable pub record_meant : Record → RecordAnswer
record_meant (Route a) = a_route a
record_meant None = a_none
record_meant NotHeard = not_heard
record_meant (Wrong x) = wrong (cause_number x.cause) x.beat

-- What the entries' answers say.
abbrev pub legality_outcome : Result Record Refusal → Outcome RecordAnswer
legality_outcome x = outcome_by record_meant x

abbrev pub arrived_outcome : Result ℕ Refusal → Outcome ℕ
arrived_outcome x = outcome_by (λ a. a) x
