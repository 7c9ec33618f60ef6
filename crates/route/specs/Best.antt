-- The best route against a list of views, as documents 01 ('Routes') and 02 (slip 10) say it.
use Rattle.std.specs.Prelude.{ℕ, suc, ◌≤◌, ◌<◌, true, List, ◌⊎◌, ◌≡◌, length}
use Rattle.route.specs.Route.{cell_at, Answer, none, route, View, Task, SharesSide}
use Rattle.route.specs.Conflict.{ClearOf}

-- r is a route of the task: 64 cells, from the start to one of the docks, each move a stay or across a side, in the grid and off the
-- walls, 0 after the horizon.
pub record IsRoute (task : Task) (r : List ℕ) : Type 0 where
  pub long : length r ≡ 64
  pub begins : cell_at r 0 ≡ task.start
  pub ends : task.dock (cell_at r task.horizon) ≡ true
  pub moves : (t : ℕ) → t < task.horizon → (cell_at r (suc t) ≡ cell_at r t) ⊎ SharesSide task.width (cell_at r t) (cell_at r (suc t))
  pub inside : (t : ℕ) → t ≤ task.horizon → cell_at r t < task.cells
  pub off_walls : (t : ℕ) → t ≤ task.horizon → task.free (cell_at r t) ≡ true
  pub blank : (t : ℕ) → task.horizon < t → cell_at r t ≡ 0

-- r is at its last cell, where it is at beat H, from beat a through beat H.
pub record HeldFrom (H : ℕ) (r : List ℕ) (a : ℕ) : Type 0 where
  pub within : a ≤ H
  pub held : (t : ℕ) → a ≤ t → t ≤ H → cell_at r t ≡ cell_at r H

-- a is the arrival of r: the least beat from which it is at its last cell through H.
pub record Arrives (H : ℕ) (r : List ℕ) (a : ℕ) : Type 0 where
  pub stays : HeldFrom H r a
  pub least : (b : ℕ) → HeldFrom H r b → a ≤ b

-- r has the smaller cell at the first beat where r and q differ.
pub record Before (r q : List ℕ) : Type 0 where
  pub beat : ℕ
  pub smaller : cell_at r beat < cell_at q beat
  pub same : (t : ℕ) → t < beat → cell_at r t ≡ cell_at q t

-- q is a route of the task without conflict with any view.
pub record Admissible (task : Task) (vs : List View) (q : List ℕ) : Type 0 where
  pub is_route : IsRoute task q
  pub clear : ClearOf task.horizon q vs

-- r is admissible, no admissible route arrives earlier, and r comes before every other one that arrives as early.
pub record BestRoute (task : Task) (vs : List View) (r : List ℕ) : Type 0 where
  pub admissible : Admissible task vs r
  pub earliest : (q : List ℕ) (a b : ℕ) → Admissible task vs q → Arrives task.horizon r a → Arrives task.horizon q b → a ≤ b
  pub first : (q : List ℕ) (a : ℕ) → Admissible task vs q → Arrives task.horizon r a → Arrives task.horizon q a →
      (q ≡ r) ⊎ Before r q

-- The best answer: the best route, or none where no route is admissible.
unfoldable pub Best : Task → List View → Answer → Type 0
Best task vs none = (q : List ℕ) → Admissible task vs q → ⊥
Best task vs (route r) = BestRoute task vs r
