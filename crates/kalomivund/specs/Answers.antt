-- What each answer of the library's entries tells as a word, its case and number, and what is stored with it.
use Rattle.std.specs.Prelude.{ℕ, List, [], ◌∷◌, replicate}
use Rattle.laws.specs.Verdict.{Outcome, value, refusal}
use Rattle.laws.specs.Memory.{put}
use Rattle.route.specs.Route.{Answer, none, route}
use Rattle.route.specs.FirstConflict.{same_cell, change_of_places, following, ConflictAnswer, free, dated}
use Rattle.lengths.specs.declared.Lengths.{Lengths}
use Rattle.reference.specs.Take.{StepAnswer, kept, sent, delivered}
use Rattle.reference.specs.Ending.{RunEnding, silent, spent, ended}
use Rattle.reference.specs.Calls.{CallAnswer, Reply, stepped, ran}
use Rattle.lister.specs.Entry.{Figures}
use Rattle.legality.specs.Entry.{RecordAnswer, a_route, a_none, not_heard, wrong}
use Rattle.abi.specs.Word.{Done, done, map_outcome}

-- A search: case 0 none, case 1 a route.
unfoldable pub answer_done : Answer → Done
answer_done none = done 0 0
answer_done (route r) = done 1 0

unfoldable pub of_search : Outcome Answer → Outcome Done
of_search x = map_outcome answer_done x

-- The 64 numbers that a search stores: the route's cells, zeros where there is no route.
unfoldable pub cells_of : Answer → List ℕ
cells_of none = replicate 64 0
cells_of (route r) = r

-- The lent route memory after a search: 64 cells in front, zeros where there is none; as it was with a refusal.
unfoldable pub route_stored : Outcome Answer → List ℕ → List ℕ
route_stored (value x) old = put old 0 (cells_of x)
route_stored (refusal k p) old = old

-- The figures of the needed lengths in their order.
unfoldable pub figure_list : Lengths → List ℕ
figure_list x = x.walls ∷ x.sheet ∷ x.answers ∷ x.text ∷ x.state ∷ x.route ∷ x.floor ∷ x.figures ∷ x.report ∷ []

-- A step: case 0 planned and kept, 1 planned and sent, 2 delivered.
unfoldable pub step_case : StepAnswer → ℕ
step_case kept = 0
step_case sent = 1
step_case delivered = 2

-- The end of a run: case 0 silent, 1 spent, 2 ended.
unfoldable pub end_case : RunEnding → ℕ
end_case silent = 0
end_case spent = 1
end_case ended = 2

-- A call of the machine: the step's case, or the end of a run with the number taken.
unfoldable pub told_done : CallAnswer → Done
told_done (stepped x) = done (step_case x) 0
told_done (ran t x) = done (end_case x) t

unfoldable pub of_reply : Reply → Outcome Done
of_reply x = map_outcome told_done x

-- The run of a rank: the case is how many steps it has, the number how many runs there are.
unfoldable pub figures_done : Figures → Done
figures_done x = done x.steps x.runs

unfoldable pub of_rank : Outcome Figures → Outcome Done
of_rank x = map_outcome figures_done x

-- The conflict test: case 0 free, 1 same cell, 2 change of places, 3 following, with the beat.
unfoldable pub conflict_done : ConflictAnswer → Done
conflict_done free = done 0 0
conflict_done (dated t same_cell) = done 1 t
conflict_done (dated t change_of_places) = done 2 t
conflict_done (dated t following) = done 3 t

unfoldable pub of_conflict : Outcome ConflictAnswer → Outcome Done
of_conflict x = map_outcome conflict_done x

-- The check of a record: case 0 a route with its arrival, 1 none, 2 not heard, 3 to 8 the cause of what is wrong, with its beat.
unfoldable pub record_done : RecordAnswer → Done
record_done (a_route a) = done 0 a
record_done a_none = done 1 0
record_done not_heard = done 2 0
record_done (wrong k t) = done k t

unfoldable pub of_record : Outcome RecordAnswer → Outcome Done
of_record x = map_outcome record_done x
