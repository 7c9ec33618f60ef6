-- The best route to one goal, by the letter of document 01 ('Routes'). The claim `one_dock` says that it is what `Best` says of a task with
-- one dock; nothing else rests on this.
use Rattle.std.specs.Prelude.{ℕ, suc, ◌≤◌, ◌<◌, true, List, ◌⊎◌, ◌≡◌, length}
use Rattle.route.specs.Route.{cell_at, Answer, none, route, View, Task, SharesSide}
use Rattle.route.specs.Conflict.{ClearOf}
use Rattle.route.specs.Best.{Before}

-- r is a route to the goal: 64 cells, from the start to the goal, each move a stay or across a side, in the grid and off the walls,
-- 0 after the horizon.
pub record IsRouteTo (goal : ℕ) (task : Task) (r : List ℕ) : Type 0 where
  pub long : length r ≡ 64
  pub begins : cell_at r 0 ≡ task.start
  pub ends : cell_at r task.horizon ≡ goal
  pub moves : (t : ℕ) → t < task.horizon → (cell_at r (suc t) ≡ cell_at r t) ⊎ SharesSide task.width (cell_at r t) (cell_at r (suc t))
  pub inside : (t : ℕ) → t ≤ task.horizon → cell_at r t < task.cells
  pub off_walls : (t : ℕ) → t ≤ task.horizon → task.free (cell_at r t) ≡ true
  pub blank : (t : ℕ) → task.horizon < t → cell_at r t ≡ 0

-- r is at the goal from beat a through beat H.
pub record HeldAt (goal H : ℕ) (r : List ℕ) (a : ℕ) : Type 0 where
  pub within : a ≤ H
  pub held : (t : ℕ) → a ≤ t → t ≤ H → cell_at r t ≡ goal

-- a is the arrival of r: the least beat from which it is at the goal through H.
pub record ArrivesAt (goal H : ℕ) (r : List ℕ) (a : ℕ) : Type 0 where
  pub stays : HeldAt goal H r a
  pub least : (b : ℕ) → HeldAt goal H r b → a ≤ b

-- q is a route to the goal without conflict with any view.
pub record AdmissibleTo (goal : ℕ) (task : Task) (vs : List View) (q : List ℕ) : Type 0 where
  pub is_route : IsRouteTo goal task q
  pub clear : ClearOf task.horizon q vs

-- r is admissible, no admissible route arrives earlier, and r comes before every other one that arrives as early.
pub record BestRouteTo (goal : ℕ) (task : Task) (vs : List View) (r : List ℕ) : Type 0 where
  pub admissible : AdmissibleTo goal task vs r
  pub earliest : (q : List ℕ) (a b : ℕ) → AdmissibleTo goal task vs q → ArrivesAt goal task.horizon r a →
      ArrivesAt goal task.horizon q b → a ≤ b
  pub first : (q : List ℕ) (a : ℕ) → AdmissibleTo goal task vs q → ArrivesAt goal task.horizon r a →
      ArrivesAt goal task.horizon q a → (q ≡ r) ⊎ Before r q

-- The best answer: the best route, or none where no route is admissible.
unfoldable pub BestTo : ℕ → Task → List View → Answer → Type 0
BestTo goal task vs none = (q : List ℕ) → AdmissibleTo goal task vs q → ⊥
BestTo goal task vs (route r) = BestRouteTo goal task vs r
