-- Inner matter: nothing claimed rests on this. What the inner functions are proved against, and what they require.
use Rattle.std.specs.Prelude.{ℕ, ◌-◌, ◌≤◌, ◌<◌, Bool, ◌&&◌, not, List, length}
use Rattle.floor.specs.declared.Floor.{Floor}
use Rattle.floor.specs.Accepted.{StrictlyRising}
use Rattle.floor.specs.Checks.{among, in_grid, count_of}

-- A cell of the floor that is no wall.
unfoldable pub free_on : Floor → List ℕ → ℕ → Bool
free_on f ws c = in_grid f c && not (among ws f.walls c)

-- What the tests of a record need that is already checked.
pub record RecordChecked (f : Floor) (ws : List ℕ) (carrier : ℕ) : Type 0 where
  pub width : (1 ≤ f.width) × (f.width ≤ 32)
  pub height : f.height ≤ 32
  pub horizon : f.horizon ≤ 63
  pub lent : f.walls ≤ length ws
  pub rising : StrictlyRising ws f.walls
  pub listed : (1 ≤ carrier) × (carrier - 1 < 8)
  pub few : count_of f (carrier - 1) ≤ 4
