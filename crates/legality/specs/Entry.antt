-- The check of a record and the arrival of a lent route as entries: their refusals in order, and their answers. Carriers count from 1.
use Rattle.std.specs.Prelude.{ℕ, min, true, false, List, eqb, length, get_or}
use Rattle.laws.specs.Memory.{part}
use Rattle.laws.specs.Verdict.{Verdict, passed, refused, ◌then◌, demand, Outcome, ◌gives◌}
use Rattle.floor.specs.declared.Floor.{Floor}
use Rattle.floor.specs.Checks.{check_of, long_enough, within}
use Rattle.route.specs.Route.{Task}
use Rattle.route.specs.Arrival.{arrival_of}
use Rattle.search.specs.Task.{task_of}
use Rattle.legality.specs.Tests.{record_test}

-- What a record is: a route with its arrival, none, not heard, or no record of the carrier, with a cause (`Tests`) and its beat.
pub data RecordAnswer : Type 0 where
  a_route : ℕ → RecordAnswer
  a_none : RecordAnswer
  not_heard : RecordAnswer
  wrong : ℕ → ℕ → RecordAnswer

-- What a record with a tag is where its tests find nothing; a is the arrival of its cells.
unfoldable pub record_kind : ℕ → ℕ → RecordAnswer
record_kind tag a = elim (eqb tag 2) [ true ↦ a_route a | false ↦ elim (eqb tag 1) [ true ↦ a_none | false ↦ not_heard ] ]

infixr 29 ◌or_wrong◌
-- The answer where the tests find nothing; otherwise the cause and the beat of the first that fails.
unfoldable pub ◌or_wrong◌ : Verdict → RecordAnswer → RecordAnswer
◌or_wrong◌ passed x = x
◌or_wrong◌ (refused k t) x = wrong k t

-- What the record in front of memory m is for a task: its tag, and 64 numbers behind it.
unfoldable pub record_answer : Task → List ℕ → RecordAnswer
record_answer task m =
    record_test task (get_or m 0 0) (part m 1 64) or_wrong record_kind (get_or m 0 0) (arrival_of (part m 1 64) task.horizon)

-- The refusals of the check of a record: the floor's, 9 if fewer than 65 numbers are lent, 7, 0 if there is no such carrier.
unfoldable pub record_verdict : Floor → List ℕ → (carrier lent : ℕ) → Verdict
record_verdict f ws carrier lent = check_of f ws then long_enough 65 lent then demand (within 1 f.carriers carrier) 7 0

-- What the check of a record answers.
unfoldable pub record_outcome : Floor → List ℕ → (carrier : ℕ) → List ℕ → Outcome RecordAnswer
record_outcome f ws carrier m = record_verdict f ws carrier (length m) gives record_answer (task_of f ws carrier) m

-- What the arrival of a lent route answers: 9 if it has fewer than 64 numbers; a horizon above 63 counts as 63.
unfoldable pub arrival_outcome : List ℕ → ℕ → Outcome ℕ
arrival_outcome r horizon = long_enough 64 (length r) gives arrival_of (part r 0 64) (min horizon 63)
