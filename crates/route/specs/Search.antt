-- The best route as a function: least arrivals by recursion on the beats left, and a walk along them. It is written to be
-- computed on small floors and to be cited by contracts; `Best` says what it is, and a claim that the two agree.
-- Beats are counted from the cell at hand, so no bound on the horizon and no number for 'none' is needed: k + 1 beats are never.
use Rattle.std.specs.Prelude.{ℕ, zero, suc, ◌-◌, Bool, true, false, ◌&&◌, List, [], ◌∷◌, ◌++◌, ltb, leb, replicate}
use Rattle.route.specs.Route.{Answer, none, route, View, Task}
use Rattle.route.specs.Moves.{allowed, start_clear}

-- A rule of moves: from cell c at beat t to cell d at beat t + 1.
abbrev pub Rule : Type 0
Rule = ℕ → ℕ → ℕ → Bool

-- The rule as it is seen one beat later.
abbrev pub later : Rule → Rule
later ok t c d = ok (suc t) c d

-- The cost of cell d: its value where the move there is allowed, else `never`.
unfoldable pub cost : (ℕ → Bool) → ℕ → (ℕ → ℕ) → ℕ → ℕ
cost move never value d = elim (move d) [ true ↦ value d | false ↦ never ]

-- The cheaper of two offers, a cell with its cost each; the one in hand where they cost the same.
unfoldable pub cheaper : ℕ × ℕ → ℕ → ℕ → ℕ × ℕ
cheaper hand d x = elim (ltb x hand.1) [ true ↦ (d, x) | false ↦ hand ]

-- The first cell below n that costs least, with its cost; 0 with `never` where every cell costs as much.
unfoldable pub cheapest : ℕ → (ℕ → ℕ) → ℕ → ℕ × ℕ
cheapest never φ zero = (0, never)
cheapest never φ (suc n) = cheaper (cheapest never φ n) n (φ n)

-- Cell c can be held for k more beats.
unfoldable pub holds : ℕ → Rule → ℕ → Bool
holds zero ok c = true
holds (suc k) ok c = ok 0 c c && holds k (later ok) c

-- A way has ended at cell c with k beats left: c is a dock and can be held to the end.
unfoldable pub ended : (ℕ → Bool) → ℕ → Rule → ℕ → Bool
ended dock k ok c = dock c && holds k ok c

module _ (cells : ℕ) (dock : ℕ → Bool) where
  -- The least beats until a dock is reached for good, from cell c with k beats left; k + 1 where there is no way.
  unfoldable pub val : ℕ → Rule → ℕ → ℕ
  val zero ok c = elim (ended dock 0 ok c) [ true ↦ 0 | false ↦ 1 ]
  val (suc k) ok c =
      elim (ended dock (suc k) ok c) [ true ↦ 0 | false ↦ suc (cheapest (suc k) (cost (ok 0 c) (suc k) (val k (later ok))) cells).1 ]

  -- The cell of the walk after cell c with k + 1 beats left: c where it has ended, else the first of least value.
  unfoldable pub onward : ℕ → Rule → ℕ → ℕ
  onward k ok c =
      elim (ended dock (suc k) ok c) [ true ↦ c | false ↦ (cheapest (suc k) (cost (ok 0 c) (suc k) (val k (later ok))) cells).0 ]

  -- The cells of the walk along least values, from cell c with k beats left.
  unfoldable pub walk : ℕ → Rule → ℕ → List ℕ
  walk zero ok c = c ∷ []
  walk (suc k) ok c = c ∷ walk k (later ok) (onward k ok c)

-- The walk from the start, with zeros up to 64 cells.
unfoldable pub walk_from : Task → Rule → List ℕ
walk_from task ok = walk task.cells task.dock task.horizon ok task.start ++ replicate (63 - task.horizon) 0

-- The best answer against a list of views.
unfoldable pub best : Task → List View → Answer
best task vs =
    elim (start_clear task vs && leb (val task.cells task.dock task.horizon (allowed task vs) task.start) task.horizon)
    [ true ↦ route (walk_from task (allowed task vs)) | false ↦ none ]
