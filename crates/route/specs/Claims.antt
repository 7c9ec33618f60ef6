-- What is claimed of routes, one field a claim; `proofs/Theorems.antt` has the proofs. A task is any numbers and any walls
-- with a horizon of at most 63, and views hold any lists of numbers.
use Rattle.std.specs.Prelude.{ℕ, ◌≤◌, Bool, true, ◌↔◌, ◌≡◌, eqb}
use mathlib.Core.List.{List, ◌∷◌, ◌++◌, Memᴰ}
use Rattle.route.specs.Route.{cell_at, Answer, none, route, View, heard, Task}
use Rattle.route.specs.Conflict.{ShowsNoRoute}
use Rattle.route.specs.Best.{IsRoute, HeldFrom, Arrives, Admissible, Best}
use Rattle.route.specs.Search.{best}
use Rattle.route.specs.Arrival.{arrival_of}
use Rattle.route.specs.Docks.{with_docks, alone}
use Rattle.route.specs.OneGoal.{ArrivesAt, BestTo}
use Rattle.route.specs.ConflictTest.{TestedFor}

pub record Claims : Type 0 where
  -- `best` answers the best route, or none where there is none.
  pub best_meets : (task : Task) (vs : List View) → task.horizon ≤ 63 → Best task vs (best task vs)
  -- The answer is none exactly if no route of the task is without conflict with every view.
  pub none_exactly : (task : Task) (vs : List View) → task.horizon ≤ 63 → (best task vs ≡ none) ↔ ((q : List ℕ) → Admissible task vs q → ⊥)
  -- There is one best answer only.
  pub best_unique : (task : Task) (vs : List View) (x y : Answer) → Best task vs x → Best task vs y → x ≡ y
  -- What is answered is a route of the task, at its last cell, a dock, from its arrival through the horizon.
  pub best_is_route : (task : Task) (vs : List View) (r : List ℕ) → task.horizon ≤ 63 → best task vs ≡ route r →
      IsRoute task r × Arrives task.horizon r (arrival_of r task.horizon)
  -- The order in which views are listed, and their repetition, do not matter.
  pub best_same_views : (task : Task) (vs vs' : List View) → task.horizon ≤ 63 → ((v : View) → Memᴰ v vs → Memᴰ v vs') →
      ((v : View) → Memᴰ v vs' → Memᴰ v vs) → best task vs ≡ best task vs'
  -- A heard route that has arrived still occupies its last cell.
  pub dock_occupied : (task : Task) (vs : List View) (r q : List ℕ) (a t : ℕ) → task.horizon ≤ 63 → Memᴰ (heard (route q)) vs →
      HeldFrom task.horizon q a → best task vs ≡ route r → a ≤ t → t ≤ task.horizon → cell_at r t ≡ cell_at q task.horizon → ⊥
  -- A view that shows no route may be left out; a heard none does show one once it is seen as a route (`seen_as`, crate `records`).
  pub silent_left_out : (task : Task) (vs vs' : List View) (v : View) → task.horizon ≤ 63 → ShowsNoRoute v →
      best task (vs ++ (v ∷ vs')) ≡ best task (vs ++ vs')
  -- The answer is none exactly if it is none with each of the docks alone.
  pub none_alone : (task : Task) (vs : List View) → task.horizon ≤ 63 →
      (best task vs ≡ none) ↔ ((d : ℕ) → task.dock d ≡ true → best (alone task d) vs ≡ none)
  -- What is answered arrives no later than the answer with any of the docks alone, and is the answer with its own last cell alone.
  pub earliest_alone : (task : Task) (vs : List View) (r q : List ℕ) (d : ℕ) → task.horizon ≤ 63 → best task vs ≡ route r →
      task.dock d ≡ true → best (alone task d) vs ≡ route q → arrival_of r task.horizon ≤ arrival_of q task.horizon
  pub own_dock_alone : (task : Task) (vs : List View) (r : List ℕ) → task.horizon ≤ 63 → best task vs ≡ route r →
      best (alone task (cell_at r task.horizon)) vs ≡ route r
  -- Only which cells are docks matters.
  pub docks_only : (task : Task) (dock : ℕ → Bool) (vs : List View) → ((c : ℕ) → task.dock c ≡ dock c) →
      best task vs ≡ best (with_docks task dock) vs
  -- With one dock the best answer is document 01's with that cell as goal, and its arrival document 01's.
  pub one_dock : (task : Task) (d : ℕ) (vs : List View) (x : Answer) → ((c : ℕ) → task.dock c ≡ eqb c d) →
      Best task vs x ↔ BestTo d task vs x
  pub one_arrival : (d H : ℕ) (r : List ℕ) (a : ℕ) → ArrivesAt d H r a ↔ ((a ≡ arrival_of r H) × (cell_at r H ≡ d))
  -- `arrival_of` is the arrival, within the horizon.
  pub arrival_agrees : (H : ℕ) (r : List ℕ) (a : ℕ) → Arrives H r a ↔ (a ≡ arrival_of r H)
  pub arrival_within : (H : ℕ) (r : List ℕ) → arrival_of r H ≤ H
  -- The conflict test of any two lists of numbers, over any horizon, finds the first conflict, or that they are free.
  pub conflict_test : (H : ℕ) (r q : List ℕ) → TestedFor H r q
