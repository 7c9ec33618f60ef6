-- The drawing of an accepted floor: what it asks for, and its length.
use Prim.Native.Nat.{ℕ, ◌+◌, ◌*◌, ◌≤◌}
use native.Mathlib.Omega.{arith}
use mathlib.Core.Path.{◌≡◌}
use mathlib.Core.List.{List}
use lib.ListN.{length}
use Rattle.laws.specs.Verdict.{passed}
use Rattle.floor.specs.declared.Floor.{Floor}
use Rattle.floor.specs.Checks.{check_of}
use Rattle.floor.proofs.LimitsLaws.{check_tells}
use Rattle.drawing.specs.Drawing.{drawn_floor}
use Rattle.drawing.proofs.DrawingLaws.{bytes_length, grid_low}

pub drawn_length : (f : Floor) (ws places : List ℕ) → length (drawn_floor f ws places) ≡ (f.width + 1) * f.height
unfolding drawn_floor
drawn_length f ws places = bytes_length f ws places ((f.width + 1) * f.height)

module _ (f : Floor) (ws : List ℕ) (ok : check_of f ws ≡ passed) where
  pub drawn_low : (f.width ≤ 32) × (f.height ≤ 32) × (f.walls ≤ length ws) × ((f.width + 1) * f.height ≤ 1056)
  drawn_low =
      let b = (check_tells f ws ok).bounds in
      (b.width.1, b.height.1, (check_tells f ws ok).lent, grid_low _ _ b.width.1 b.height.1)

  pub drawn_short : (places : List ℕ) → length (drawn_floor f ws places) ≤ 1056
  drawn_short places = omega (arith, drawn_length f ws places, drawn_low.3)
