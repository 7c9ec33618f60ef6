-- Inner matter: nothing claimed rests on this. What the inner functions are proved against.
use Rattle.std.specs.Prelude.{ℕ, List, ◌≡◌, length}
use Rattle.laws.specs.Verdict.{passed}
use Rattle.floor.specs.declared.Floor.{Floor}
use Rattle.floor.specs.Checks.{check_of}

-- The frames of a checked floor can be told: its walls are lent, and its answers lie in a memory for eight carriers.
pub record Drawable (f : Floor) (ws own : List ℕ) : Type 0 where
  pub checked : check_of f ws ≡ passed
  pub long : length own ≡ 520
