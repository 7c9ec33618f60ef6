-- Whether a record is a route of a task (document 01, 'Routes'), test by test. A verdict says here which test fails first: the number of
-- its cause, 3 to 8, and its first beat.
use Rattle.std.specs.Prelude.{ℕ, ◌+◌, ◌-◌, Bool, true, false, ◌&&◌, List, eqb, ltb, leb}
use Rattle.laws.specs.Verdict.{Verdict, ◌then◌, demand, demand_each}
use Rattle.route.specs.Route.{cell_at, Task}
use Rattle.route.specs.Moves.{near}

-- Cause 3, beat 0: a route begins at a cell.
unfoldable pub begin_test : ℕ → List ℕ → Verdict
begin_test start r = demand (eqb (cell_at r 0) start) 3 0

-- Cause 4, beat t: it is at a free cell at every beat 0 to H.
unfoldable pub cells_test : (ℕ → Bool) → ℕ → List ℕ → Verdict
cells_test free H r = demand_each 4 0 (λ t. free (cell_at r t)) (H + 1)

-- Cause 5, beat t: between beats t and t + 1 it stays or goes to a cell that shares a side, in a grid of width w.
unfoldable pub moves_test : ℕ → ℕ → List ℕ → Verdict
moves_test w H r = demand_each 5 0 (λ t. near w (cell_at r t) (cell_at r (t + 1))) H

-- Cause 6, beat H: it ends at a dock.
unfoldable pub dock_test : (ℕ → Bool) → ℕ → List ℕ → Verdict
dock_test dock H r = demand (dock (cell_at r H)) 6 H

-- The number k places from a beat on is 0.
unfoldable pub zero_at : List ℕ → ℕ → ℕ → Bool
zero_at r from k = eqb (cell_at r (from + k)) 0

-- Cause 7, beat t: of its 64 numbers those from a beat on are 0.
unfoldable pub blank_test : ℕ → List ℕ → Verdict
blank_test from r = demand_each 7 from (zero_at r from) (64 - from)

-- A cell of the task's grid that is no wall.
unfoldable pub free_in : Task → ℕ → Bool
free_in task c = ltb c task.cells && task.free c

-- The tests of a route of a task, each made only where those before it find nothing.
unfoldable pub route_test : Task → List ℕ → Verdict
route_test task r =
    begin_test task.start r
    then cells_test (free_in task) task.horizon r
    then moves_test task.width task.horizon r
    then dock_test task.dock task.horizon r
    then blank_test (task.horizon + 1) r

-- The tests of a record with a tag and 64 numbers: cause 8, beat 0, a tag above 2; with tag 2 those of a route; with tag 0 or 1 no number
-- but 0.
unfoldable pub record_test : Task → ℕ → List ℕ → Verdict
record_test task tag r = demand (leb tag 2) 8 0 then elim (eqb tag 2) [ true ↦ route_test task r | false ↦ blank_test 0 r ]
