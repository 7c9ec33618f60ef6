-- Numbers of a grid.
use Prim.Native.Nat.{ℕ, ◌*◌, ◌≤◌, ◌<◌}
use native.Mathlib.Omega.{arith}
use native.Mathlib.Nat.{mul-le-mul_left}
use mathlib.Core.Path.{refl}
use Rattle.floor.specs.declared.Floor.{Floor}
use Rattle.layers.specs.Table.{Grid, search_grid_of}

-- A grid of at most 32 rows fits 32 rows.
pub grid_low : (w h : ℕ) → h ≤ 32 → w * h ≤ 32 * w
grid_low w h l = omega (arith, mul-le-mul_left w l)

pub grid_small : (w h : ℕ) → w ≤ 32 → h ≤ 32 → w * h ≤ 1024
grid_small w h k l = omega (arith, grid_low w h l)

-- A cell's number is below the number that is no cell.
pub cell_small : (w cells c : ℕ) → w ≤ 32 → cells ≤ 32 * w → c < cells → c < 65535
cell_small w cells c narrow table h = omega arith

-- The scene of a floor has a grid that fits the rows.
pub scene_grid : (f : Floor) → 1 ≤ f.width → f.width ≤ 32 → f.height ≤ 32 → Grid (search_grid_of f)
unfolding search_grid_of
scene_grid f thin narrow low = record { thin = thin; narrow = narrow; low = grid_low f.width f.height low; scaled = refl }
