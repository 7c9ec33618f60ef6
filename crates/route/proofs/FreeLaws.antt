-- Which cells are free matters only within the grid: code that knows walls there, by a bitmap or a list, may stand for `free`.
use Prim.Native.Nat.{ℕ, suc, ◌-◌, ◌≤◌, ◌<◌}
use mathlib.Core.Bool.{Bool, true, false, ◌&&◌}
use mathlib.Core.List.{List, ◌++◌}
use mathlib.Core.Logic.{⊎_elim}
use mathlib.Core.Path.{◌≡◌, ap₂, fun_ext}
use lib.Dec.{leb}
use lib.ListN.{replicate}
use borrow.Author.Tests.{le-ltb}
use Rattle.route.specs.Route.{Answer, none, route, View, Task}
use Rattle.route.specs.Moves.{standable, allowed, start_clear}
use Rattle.route.specs.Search.{Rule, val, walk, walk_from, best}
use Rattle.laws.proofs.Tests.{lt_or_le}

-- The task with other free cells.
abbrev pub with_free : Task → (ℕ → Bool) → Task
with_free task φ =
    record {
      width = task.width;
      cells = task.cells;
      horizon = task.horizon;
      start = task.start;
      dock = task.dock;
      free = φ;
    }

-- `best` over a test of the start and a rule.
answer_by : Task → Bool → Rule → Answer
answer_by task clear ok =
    elim (clear && leb (val task.cells task.dock task.horizon ok task.start) task.horizon)
    [ true ↦ route (walk task.cells task.dock task.horizon ok task.start ++ replicate (63 - task.horizon) 0) | false ↦ none ]

module _ (task : Task) (vs : List View) (φ ψ : ℕ → Bool) (agree : (c : ℕ) → c < task.cells → φ c ≡ ψ c) where
  standable_free : (t d : ℕ) → standable (with_free task φ) vs t d ≡ standable (with_free task ψ) vs t d
  unfolding standable
  standable_free t d =
      ⊎_elim (λ (h : d < task.cells). rw (agree d h)) (λ (h : task.cells ≤ d). rw (le-ltb d task.cells h)) (lt_or_le d task.cells)

  allowed_free : allowed (with_free task φ) vs ≡ allowed (with_free task ψ) vs
  unfolding allowed
  allowed_free = fun_ext (λ t. fun_ext (λ c. fun_ext (λ d. rw (standable_free (suc t) d))))

  start_free : start_clear (with_free task φ) vs ≡ start_clear (with_free task ψ) vs
  unfolding start_clear
  start_free = standable_free 0 task.start

  pub best_free : best (with_free task φ) vs ≡ best (with_free task ψ) vs
  unfolding best walk_from answer_by
  best_free = ap₂ (answer_by task) start_free allowed_free
