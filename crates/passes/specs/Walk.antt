-- The walk along the sets of a table: at each beat the first near cell, in rising order, of the next set.
use Rattle.std.specs.Prelude.{ℕ, zero, suc, ◌+◌, ◌-◌, ◌%◌, Bool, true, false, ◌&&◌, List, leb, ltb}
use Rattle.layers.specs.declared.SearchGrid.{SearchGrid}
use Rattle.layers.specs.Table.{in_set}

-- The first where the test holds, else the second.
unfoldable pub pick : Bool → ℕ → ℕ → ℕ
pick z x y = elim z [ true ↦ x | false ↦ y ]

-- The first cell above, left, here, right and below c in a grid of width w that passes a test; c where none does.
unfoldable pub first_near : (ℕ → Bool) → ℕ → ℕ → ℕ
first_near φ w c =
    pick (leb w c && φ (c - w)) (c - w)
    (pick (ltb 0 (c % w) && φ (c - 1)) (c - 1)
    (pick (φ c) c (pick (ltb (c % w + 1) w && φ (c + 1)) (c + 1) (pick (φ (c + w)) (c + w) c))))

-- The smallest near cell of c in the set of beat t; c where there is none.
unfoldable pub next_of : SearchGrid → List ℕ → ℕ → ℕ → ℕ
next_of g sets t c = first_near (in_set g sets t) g.width c

-- The cell of the walk after cell c at beat t: before beat a the next one, then c.
unfoldable pub step_of : SearchGrid → List ℕ → ℕ → ℕ → ℕ → ℕ
step_of g sets a t c = pick (ltb t a) (next_of g sets (t + 1) c) c

-- The cell of the walk at a beat.
unfoldable pub path_of : SearchGrid → List ℕ → ℕ → ℕ → ℕ → ℕ
path_of g sets start a zero = start
path_of g sets start a (suc t) = step_of g sets a t (path_of g sets start a t)
