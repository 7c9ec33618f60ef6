-- What is claimed of the check of a record and of the arrival of a lent route; `proofs/Theorems.antt` has the proofs. The floor, the
-- walls, the carrier number (from 1) and the numbers of the record are any.
use Rattle.std.specs.Prelude.{ℕ, ◌≤◌, min, List, ◌∷◌, ◌↔◌, ◌≡◌, length, get_or}
use Rattle.laws.specs.Memory.{part}
use Rattle.laws.specs.Verdict.{passed, value}
use Rattle.floor.specs.declared.Floor.{Floor}
use Rattle.floor.specs.Accepted.{Accepted, Within}
use Rattle.route.specs.Route.{none, route, unheard, Task}
use Rattle.route.specs.Best.{IsRoute, Arrives}
use Rattle.route.specs.Arrival.{arrival_of}
use Rattle.records.specs.Records.{record_of, slot}
use Rattle.search.specs.Task.{task_of}
use Rattle.search.specs.Answers.{answered}
use Rattle.search.specs.Search.{search_of}
use Rattle.legality.specs.Tests.{route_test}
use Rattle.legality.specs.Faults.{FaultAt}
use Rattle.legality.specs.Entry.{a_route, a_none, not_heard, wrong, record_outcome, arrival_outcome}

-- A check of a record that is not refused: an accepted floor, 65 numbers lent, and one of its carriers.
pub record RecordGranted (f : Floor) (ws : List ℕ) (i : ℕ) (m : List ℕ) : Type 0 where
  pub accepted : Accepted f ws
  pub lent : 65 ≤ length m
  pub listed : Within 1 f.carriers i

-- The record in front of memory m is a route of carrier i with arrival a.
pub record RouteIn (f : Floor) (ws : List ℕ) (i : ℕ) (m : List ℕ) (a : ℕ) : Type 0 where
  pub asked : RecordGranted f ws i m
  pub tagged : get_or m 0 0 ≡ 2
  pub is_route : IsRoute (task_of f ws i) (part m 1 64)
  pub arrives : Arrives f.horizon (part m 1 64) a

pub record Claims : Type 0 where
  -- The tests of 64 numbers find nothing exactly if they are a route of the task.
  pub route_exactly : (task : Task) (r : List ℕ) → length r ≡ 64 → (route_test task r ≡ passed) ↔ IsRoute task r
  -- A route is answered exactly if the record is one of the carrier, with its arrival.
  pub legal_exactly : (f : Floor) (ws : List ℕ) (i : ℕ) (m : List ℕ) (a : ℕ) →
      (record_outcome f ws i m ≡ value (a_route a)) ↔ RouteIn f ws i m a
  -- None is answered exactly if the 65 numbers are the record of none, not heard exactly if they are all 0.
  pub none_exactly : (f : Floor) (ws : List ℕ) (i : ℕ) (m : List ℕ) →
      (record_outcome f ws i m ≡ value a_none) ↔ (RecordGranted f ws i m × (part m 0 65 ≡ record_of none))
  pub unheard_exactly : (f : Floor) (ws : List ℕ) (i : ℕ) (m : List ℕ) →
      (record_outcome f ws i m ≡ value not_heard) ↔ (RecordGranted f ws i m × (part m 0 65 ≡ slot unheard))
  -- What is wrong is answered exactly under the condition of its cause, with its first beat.
  pub wrong_exactly : (f : Floor) (ws : List ℕ) (i : ℕ) (m : List ℕ) (k t : ℕ) →
      (record_outcome f ws i m ≡ value (wrong k t)) ↔ (RecordGranted f ws i m × FaultAt (task_of f ws i) (get_or m 0 0) (part m 1 64) k t)
  -- Every route that a search answers is one of the carrier, whatever was heard.
  pub found_legal : (f : Floor) (ws : List ℕ) (i : ℕ) (m r : List ℕ) → search_of f ws i m ≡ answered (route r) →
      record_outcome f ws i (2 ∷ r) ≡ value (a_route (arrival_of r f.horizon))
  -- The arrival is answered exactly if 64 cells are lent: the least beat from which they are at the last cell through the horizon.
  pub arrival_exactly : (r : List ℕ) (horizon a : ℕ) →
      (arrival_outcome r horizon ≡ value a) ↔ ((64 ≤ length r) × Arrives (min horizon 63) (part r 0 64) a)
