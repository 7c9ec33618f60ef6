-- The task of a search: a carrier of a floor with its walls. Carriers count from 1.
use Rattle.std.specs.Prelude.{ℕ, ◌*◌, ◌-◌, ◌/◌, ◌%◌, Bool, not, List}
use Rattle.floor.specs.declared.Floor.{Floor}
use Rattle.floor.specs.Checks.{start_of, is_dock, among}
use Rattle.route.specs.Route.{Task}
use Rattle.bitrows.specs.Rows.{has}

-- The task of carrier i on floor f, with the cells that are no wall.
abbrev pub task_with : Floor → ℕ → (ℕ → Bool) → Task
task_with f i free =
    record {
      width = f.width;
      cells = f.width * f.height;
      horizon = f.horizon;
      start = start_of f (i - 1);
      dock = is_dock f (i - 1);
      free = free;
    }

-- The task of carrier i on floor f with walls ws.
unfoldable pub task_of : Floor → List ℕ → ℕ → Task
task_of f ws i = task_with f i (λ c. not (among ws f.walls c))

-- The same with the free cells as rows of words.
unfoldable pub task_of_rows : Floor → List ℕ → ℕ → Task
task_of_rows f rows i = task_with f i (λ c. has rows (c / f.width) (c % f.width))
