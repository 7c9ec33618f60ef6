-- When a record is none of a carrier's: one constructor a cause, with its number and its first beat, under exactly its condition. Each
-- holds only where no earlier test fails.
use Rattle.std.specs.Prelude.{ℕ, ◌+◌, ◌-◌, ◌<◌, true, List, ◌⊎◌, ◌≡◌}
use Rattle.laws.specs.Verdict.{All, First}
use Rattle.route.specs.Route.{cell_at, Task, SharesSide}

module _ (task : Task) (r : List ℕ) where
  -- It begins at the start.
  abbrev pub BeginsAtStart : Type 0
  BeginsAtStart = cell_at r 0 ≡ task.start

  -- At beat t it is in the grid and off the walls.
  abbrev pub Stands : ℕ → Type 0
  Stands t = (cell_at r t < task.cells) × (task.free (cell_at r t) ≡ true)

  -- Between beats t and t + 1 it stays or goes to a cell that shares a side.
  abbrev pub Steps : ℕ → Type 0
  Steps t = (cell_at r (t + 1) ≡ cell_at r t) ⊎ SharesSide task.width (cell_at r t) (cell_at r (t + 1))

  -- It ends at a dock.
  abbrev pub Docked : Type 0
  Docked = task.dock (cell_at r task.horizon) ≡ true

-- The number k places from a beat on is 0.
abbrev pub ZeroFrom : List ℕ → ℕ → ℕ → Type 0
ZeroFrom r from k = cell_at r (from + k) ≡ 0

pub data FaultAt (task : Task) (tag : ℕ) (r : List ℕ) : ℕ → ℕ → Type 0 where
  -- 8, beat 0: the tag is none of 0, 1 and 2.
  no_tag : 2 < tag → FaultAt task tag r 8 0
  -- 3, beat 0: a route that does not begin at the start.
  other_start : tag ≡ 2 → (BeginsAtStart task r → ⊥) → FaultAt task tag r 3 0
  -- 4, beat t: it is outside the grid or on a wall.
  no_cell : {t : ℕ} → tag ≡ 2 → BeginsAtStart task r → First (Stands task r) (task.horizon + 1) t → FaultAt task tag r 4 t
  -- 5, beat t: after it no stay, and no move to a cell that shares a side.
  no_move : {t : ℕ} → tag ≡ 2 → BeginsAtStart task r → All (Stands task r) (task.horizon + 1) → First (Steps task r) task.horizon t →
      FaultAt task tag r 5 t
  -- 6, the horizon: it ends at no dock.
  no_dock : tag ≡ 2 → BeginsAtStart task r → All (Stands task r) (task.horizon + 1) → All (Steps task r) task.horizon →
      (Docked task r → ⊥) → FaultAt task tag r 6 task.horizon
  -- 7, beat t: other than 0 after the horizon.
  not_blank : {k : ℕ} → tag ≡ 2 → BeginsAtStart task r → All (Stands task r) (task.horizon + 1) → All (Steps task r) task.horizon →
      Docked task r → First (ZeroFrom r (task.horizon + 1)) (64 - (task.horizon + 1)) k → FaultAt task tag r 7 (task.horizon + 1 + k)
  -- 7, beat t: other than 0 where there is no route.
  not_empty : {t : ℕ} → tag < 2 → First (ZeroFrom r 0) 64 t → FaultAt task tag r 7 t
