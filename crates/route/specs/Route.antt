-- Routes, answers, views and the task of a search (document 01, 'Routes'). Beats count from 0, cells are cell numbers.
use Rattle.std.specs.Prelude.{ℕ, suc, ◌/◌, ◌%◌, Bool, List, ◌⊎◌, ◌≡◌, get_or}

-- The cell of route r at beat t; a route is a list of 64 cell numbers.
unfoldable pub cell_at : List ℕ → ℕ → ℕ
cell_at r t = get_or r t 0

-- The answer of a search: a route, or none if there is no route.
pub data Answer : Type 0 where
  none : Answer
  route : List ℕ → Answer

-- What a carrier knows of another one's answer: nothing yet, or the answer.
pub data View : Type 0 where
  unheard : View
  heard : Answer → View

-- What a search is told: the grid, the horizon, where from, at which cells a route may end (its docks), and which cells are no wall.
pub record Task : Type 0 where
  pub width : ℕ
  pub cells : ℕ
  pub horizon : ℕ
  pub start : ℕ
  pub dock : ℕ → Bool
  pub free : ℕ → Bool

-- One number is the other plus 1.
unfoldable pub Neighbours : ℕ → ℕ → Type 0
Neighbours k n = (k ≡ suc n) ⊎ (n ≡ suc k)

-- Cells c and d of a grid of width w share a side: neighbouring columns of one row, or neighbouring rows of one column.
unfoldable pub SharesSide : ℕ → ℕ → ℕ → Type 0
SharesSide w c d = ((c / w ≡ d / w) × Neighbours (c % w) (d % w)) ⊎ ((c % w ≡ d % w) × Neighbours (c / w) (d / w))
