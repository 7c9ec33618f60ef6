-- The rule of moves: which cell may follow which, at which beat. A Bool, so that a search computes with it.
use Rattle.std.specs.Prelude.{ℕ, suc, ◌-◌, ◌/◌, ◌%◌, Bool, true, ◌&&◌, ◌||◌, not, List, [], ◌∷◌, ltb, eqb}
use Rattle.route.specs.Route.{cell_at, none, route, View, unheard, heard, Task}

-- One number is the other plus 1.
unfoldable pub neighbours : ℕ → ℕ → Bool
neighbours k n = eqb k (suc n) || eqb n (suc k)

-- d is c, or shares a side with c in a grid of width w.
unfoldable pub near : ℕ → ℕ → ℕ → Bool
near w c d = eqb d c || (eqb (c / w) (d / w) && neighbours (c % w) (d % w)) || (eqb (c % w) (d % w) && neighbours (c / w) (d / w))

-- Cell d is not the view's at beat t, nor at the next one up to the horizon H, nor at the one before. Numbers after beat H are not read.
unfoldable pub vacant : ℕ → ℕ → ℕ → View → Bool
vacant H t d unheard = true
vacant H t d (heard none) = true
vacant H t d (heard (route q)) =
    not (eqb d (cell_at q t)) && not (ltb t H && eqb d (cell_at q (suc t))) && not (ltb 0 t && eqb d (cell_at q (t - 1)))

-- The test holds of every view of a list.
unfoldable pub every : (View → Bool) → List View → Bool
every φ [] = true
every φ (v ∷ vs) = φ v && every φ vs

-- Cell d may be stood on at beat t: it is in the grid, no wall, and no view's then or at a beat beside it.
unfoldable pub standable : Task → List View → ℕ → ℕ → Bool
standable task vs t d = ltb d task.cells && task.free d && every (vacant task.horizon t d) vs

-- From cell c at beat t to cell d at beat t + 1 is allowed: no move as such is forbidden, only where it leads.
unfoldable pub allowed : Task → List View → ℕ → ℕ → ℕ → Bool
allowed task vs t c d = near task.width c d && standable task vs (suc t) d

-- The start may be stood on at beat 0, which no move looks at.
unfoldable pub start_clear : Task → List View → Bool
start_clear task vs = standable task vs 0 task.start
