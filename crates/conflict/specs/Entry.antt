-- The conflict test of two lent routes as an entry (document 02, slips 7 and 9): its refusal, and its answer.
use Rattle.std.specs.Prelude.{ℕ, min, List, length, Option, Result}
use Rattle.laws.specs.Memory.{part}
use Rattle.laws.specs.Verdict.{Verdict, ◌then◌, Outcome, ◌gives◌}
use Rattle.floor.specs.declared.Refusal.{Refusal}
use Rattle.floor.specs.Answers.{outcome_by}
use Rattle.floor.specs.Checks.{long_enough}
use Rattle.route.specs.FirstConflict.{ConflictAnswer}
use Rattle.route.specs.ConflictTest.{conflict_told, first_conflict}
use Rattle.route.specs.declared.Conflict.{Conflict}

-- What the code's answer says.
abbrev pub compared_outcome : Result (Option Conflict) Refusal → Outcome ConflictAnswer
compared_outcome x = outcome_by conflict_told x

-- 9, 0: a lent route has fewer than 64 numbers.
unfoldable pub routes_lent : List ℕ → List ℕ → Verdict
routes_lent r q = long_enough 64 (length r) then long_enough 64 (length q)

-- What the entry answers: the first conflict of the first 64 numbers of each, through the horizon, one above 63 counting as 63.
unfoldable pub conflict_outcome : List ℕ → List ℕ → ℕ → Outcome ConflictAnswer
conflict_outcome r q horizon = routes_lent r q gives first_conflict (min horizon 63) (part r 0 64) (part q 0 64)
