-- The search in a free table: what it answers, whatever was free and whoever is seen, where the free table has what can be stood on.
use Rattle.std.specs.Prelude.{ℕ, ◌≤◌, Bool, List, Option, ◌≡◌}
use Rattle.route.specs.Route.{Task, View}
use Rattle.route.specs.Moves.{standable}
use Rattle.route.specs.Search.{best}
use Rattle.layers.specs.declared.SearchGrid.{SearchGrid}
use Rattle.layers.specs.Table.{in_set}
use Rattle.search.specs.Answers.{answer_of}

-- The task from a start to any of some docks in a scene, with the cells that are no wall.
abbrev pub task_in : SearchGrid → ℕ → (ℕ → Bool) → (ℕ → Bool) → Task
task_in g start dock free =
    record { width = g.width; cells = g.cells; horizon = g.horizon; start = start; dock = dock; free = free }

-- The free table has at each beat the cells that can be stood on.
abbrev pub Agrees : SearchGrid → List ℕ → Task → List View → Type 0
Agrees g table task vs = (t c : ℕ) → t ≤ g.horizon → in_set g table t c ≡ standable task vs t c

-- x is the best answer of every task and views with such a free table.
abbrev pub BestIn : SearchGrid → List ℕ → ℕ → (ℕ → Bool) → Option (List ℕ) → Type 0
BestIn g table start dock x =
    (free : ℕ → Bool) (vs : List View) → Agrees g table (task_in g start dock free) vs →
    answer_of x ≡ best (task_in g start dock free) vs
