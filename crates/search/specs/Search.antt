-- The search as document 01 says it: the refusals in their order, then the best route against the views of the carriers above, as
-- they are seen: a carrier that has told none stays at its start.
use Rattle.std.specs.Prelude.{ℕ, ◌*◌, List, length}
use Rattle.floor.specs.declared.Floor.{Floor}
use Rattle.laws.specs.Verdict.{Verdict, demand, ◌then◌, Outcome, ◌gives◌}
use Rattle.floor.specs.Checks.{check_of, long_enough, within}
use Rattle.route.specs.Route.{Answer}
use Rattle.route.specs.Search.{best}
use Rattle.search.specs.Task.{task_of}
use Rattle.records.specs.Records.{views_of}
use Rattle.records.specs.Seen.{seen}

-- The refusals of a search: the floor's, 9 if too few numbers of views are lent, 7 if there is no such carrier.
unfoldable pub request_of : Floor → List ℕ → ℕ → List ℕ → Verdict
request_of f ws i m =
    check_of f ws then long_enough (65 * f.carriers) (length m) then demand (within 1 f.carriers i) 7 0

-- What a search for carrier i answers, from the floor, the walls and the views in memory m, none being seen as a carrier that stays.
unfoldable pub search_of : Floor → List ℕ → ℕ → List ℕ → Outcome Answer
search_of f ws i m = request_of f ws i m gives best (task_of f ws i) (seen f (views_of m i))
