-- When a search is not refused; the rows of its refusals are demand 1's.
use Rattle.std.specs.Prelude.{ℕ, ◌*◌, ◌≤◌, List, length}
use Rattle.floor.specs.declared.Floor.{Floor}
use Rattle.floor.specs.Accepted.{Accepted, Within}

-- A request that is not refused: an accepted floor, its carriers' views lent, and one of its carriers.
pub record Granted (f : Floor) (ws : List ℕ) (i : ℕ) (m : List ℕ) : Type 0 where
  pub accepted : Accepted f ws
  pub lent : 65 * f.carriers ≤ length m
  pub listed : Within 1 f.carriers i
