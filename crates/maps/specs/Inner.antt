-- Inner matter: nothing claimed rests on this. What the inner functions are proved against.
use Rattle.std.specs.Prelude.{◌≤◌}
use Rattle.floor.specs.declared.Floor.{Floor}
use Rattle.floor.specs.Accepted.{CountsWithin}

-- The marks of a floor can be told: it has at most eight carriers, with 1 to 4 docks each.
pub record Markable (f : Floor) : Type 0 where
  pub few : f.carriers ≤ 8
  pub counted : CountsWithin f
