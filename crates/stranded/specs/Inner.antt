-- Inner matter: nothing claimed rests on this. What the inner functions are proved against.
use Rattle.std.specs.Prelude.{ℕ, zero, suc, ◌*◌, cond, List, eqb, get_or, replicate, set}
use Rattle.floor.specs.declared.Floor.{Floor}
use Rattle.floor.specs.Checks.{start_of}

-- The cell of carrier k by the tag of its answer in a memory: nowhere with a route, otherwise its start.
unfoldable pub stranded_cell : Floor → List ℕ → ℕ → ℕ
stranded_cell f m k = cond (eqb (get_or m (65 * k) 0) 2) 65535 (start_of f k)

-- The cells of the first k carriers.
unfoldable pub places_in : Floor → List ℕ → ℕ → List ℕ
places_in f m zero = replicate 8 65535
places_in f m (suc k) = set (places_in f m k) k (stranded_cell f m k)
