-- The sequential planner (document 01): carriers 1 to n, each best against the answers above it; one with none stays at its start
-- (document 02, slip 2).
use Rattle.std.specs.Prelude.{ℕ, suc, ◌+◌, ◌*◌, List, [], ◌∷◌}
use Rattle.floor.specs.declared.Floor.{Floor}
use Rattle.laws.specs.Verdict.{Verdict, ◌then◌}
use Rattle.floor.specs.Checks.{check_of, long_enough}
use Rattle.route.specs.Route.{Answer, none, route, View}
use Rattle.route.specs.Search.{best}
use Rattle.route.specs.Sequential.{sequential}
use Rattle.records.specs.Seen.{seen}
use Rattle.search.specs.Task.{task_of, task_of_rows}

-- The best response of a carrier, counted from 0, to the views of the carriers above it, as they are seen: none as a carrier that stays.
unfoldable pub respond_of : Floor → List ℕ → ℕ → List View → Answer
respond_of f ws i vs = best (task_of f ws (i + 1)) (seen f vs)

-- The same with the floor's free cells as rows of words.
unfoldable pub respond_with : Floor → List ℕ → ℕ → List View → Answer
respond_with f rows i vs = best (task_of_rows f rows (i + 1)) (seen f vs)

-- The answers of all carriers.
unfoldable pub plan_of : Floor → List ℕ → List Answer
plan_of f ws = sequential (respond_of f ws) f.carriers

-- The first carrier with none, the first answer being carrier k's; 0 if all have routes.
unfoldable pub failing_from : ℕ → List Answer → ℕ
failing_from k [] = 0
failing_from k (none ∷ xs) = k
failing_from k (route r ∷ xs) = failing_from (suc k) xs

-- The failing carrier.
unfoldable pub failing_of : List Answer → ℕ
failing_of xs = failing_from 1 xs

-- The refusals of a plan: the floor's, then 9 if fewer than 65 numbers a carrier are lent for the answers.
unfoldable pub plan_verdict : Floor → List ℕ → ℕ → Verdict
plan_verdict f ws lent = check_of f ws then long_enough (65 * f.carriers) lent
