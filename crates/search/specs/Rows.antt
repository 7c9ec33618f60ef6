-- The free cells of a floor as rows of words, made once a floor.
use Rattle.std.specs.Prelude.{ℕ, ◌*◌, ◌-◌, ◌/◌, ◌%◌, ◌^◌, ◌≤◌, ◌<◌, not, List, ◌≡◌, length, replicate}
use Rattle.floor.specs.declared.Floor.{Floor}
use Rattle.floor.specs.Checks.{start_of, count_of, dock_of, among}
use Rattle.route.specs.Route.{View}
use Rattle.route.specs.Search.{best}
use Rattle.bitrows.specs.Rows.{has, filled, Clean}
use Rattle.search.specs.Task.{task_of, task_of_rows}

-- The rows of a grid.
unfoldable pub grid_rows : ℕ → ℕ → List ℕ
grid_rows w h = filled (replicate 32 0) (λ row. 2 ^ w - 1) h

-- The rows are the floor's free cells: a cell has a digit where it is no wall, every digit is a cell, and a search with them answers as
-- with the walls.
pub record FreeRows (f : Floor) (ws rows : List ℕ) : Type 0 where
  pub free : (c : ℕ) → c < f.width * f.height → has rows (c / f.width) (c % f.width) ≡ not (among ws f.walls c)
  pub long : length rows ≡ 32
  pub clean : Clean f.width (f.width * f.height) rows
  pub same : (i : ℕ) (vs : List View) → best (task_of_rows f rows i) vs ≡ best (task_of f ws i) vs

-- What a search needs that is already checked.
pub record Searchable (f : Floor) (rows : List ℕ) (i : ℕ) (m : List ℕ) : Type 0 where
  pub width : (1 ≤ f.width) × (f.width ≤ 32)
  pub height : f.height ≤ 32
  pub horizon : f.horizon ≤ 63
  pub listed : (1 ≤ i) × (i ≤ 8)
  pub start : start_of f (i - 1) < f.width * f.height
  pub few : count_of f (i - 1) ≤ 4
  pub docks : (d : ℕ) → d < count_of f (i - 1) → dock_of f (i - 1) d < f.width * f.height
  pub lent : 65 * (i - 1) ≤ length m
  pub long : length rows ≡ 32
  pub clean : Clean f.width (f.width * f.height) rows
