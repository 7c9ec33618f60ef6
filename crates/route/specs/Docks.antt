-- A task with other docks, for what is claimed of several docks against one.
use Rattle.std.specs.Prelude.{ℕ, Bool, eqb}
use Rattle.route.specs.Route.{Task}

-- The task with other docks.
abbrev pub with_docks : Task → (ℕ → Bool) → Task
with_docks task dock =
    record {
      width = task.width;
      cells = task.cells;
      horizon = task.horizon;
      start = task.start;
      dock = dock;
      free = task.free;
    }

-- The task with the one dock d.
abbrev pub alone : Task → ℕ → Task
alone task d = with_docks task (λ c. eqb c d)
