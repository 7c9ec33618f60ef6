-- The table of refusals for a floor given as a record: one constructor a row, with number and place, under exactly document 01's
-- condition. Each holds only where no earlier row does, and each names its first place.
use Rattle.std.specs.Prelude.{ℕ, ◌+◌, ◌<◌, List, length}
use Rattle.floor.specs.declared.Floor.{Floor}
use Rattle.floor.specs.Accepted.{FieldWithin, CarrierInGrid, WallInGrid, Rises, ClearOfWalls, Unshared, Unrepeated}
use Rattle.laws.specs.Verdict.{First}
use Rattle.floor.specs.Accepted.{Limited, Lent, CarriersInGrid, WallsInGrid, Rising, Clear, Distinct}

pub data RefusedWith (f : Floor) (ws : List ℕ) : ℕ → ℕ → Type 0 where
  -- 2, field: a value of line 1 is outside its limits.
  outside_limit : {i : ℕ} → First (FieldWithin f) 6 i → RefusedWith f ws 2 (1 + i)
  -- 9, 0: fewer walls are lent than the floor counts.
  few_walls : Limited f → length ws < f.walls → RefusedWith f ws 9 0
  -- 3, item: a carrier's dock count is outside its limits, or its start or a dock lies outside the grid.
  carrier_outside : {i : ℕ} → Limited f → Lent f ws → First (CarrierInGrid f) f.carriers i → RefusedWith f ws 3 (1 + i)
  -- 3, item: a wall lies outside the grid; walls follow the carriers.
  wall_outside : {j : ℕ} → Limited f → Lent f ws → CarriersInGrid f → First (WallInGrid f ws) f.walls j
      → RefusedWith f ws 3 (f.carriers + 1 + j)
  -- 4, item: a wall is not above the one before it.
  not_rising : {j : ℕ} → Limited f → Lent f ws → CarriersInGrid f → WallsInGrid f ws → First (Rises ws) f.walls j
      → RefusedWith f ws 4 (f.carriers + 1 + j)
  -- 5, carrier: its start or a dock is a wall.
  on_wall : {i : ℕ} → Limited f → Lent f ws → CarriersInGrid f → WallsInGrid f ws → Rising f ws
      → First (ClearOfWalls f ws) f.carriers i → RefusedWith f ws 5 (1 + i)
  -- 6, carrier: an earlier carrier has the same start.
  shared : {i : ℕ} → Limited f → Lent f ws → CarriersInGrid f → WallsInGrid f ws → Rising f ws → Clear f ws
      → First (Unshared f) f.carriers i → RefusedWith f ws 6 (1 + i)
  -- 17, carrier: a dock is twice in its list.
  repeated : {i : ℕ} → Limited f → Lent f ws → CarriersInGrid f → WallsInGrid f ws → Rising f ws → Clear f ws → Distinct f
      → First (Unrepeated f) f.carriers i → RefusedWith f ws 17 (1 + i)
