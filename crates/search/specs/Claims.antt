-- What is claimed of the search, one field a claim; `proofs/Theorems.antt` has the proofs. The floor, the walls, the carrier number and
-- the numbers in the views' memory m are any: m holds any lists of numbers, not only routes.
use Rattle.std.specs.Prelude.{ℕ, suc, ◌+◌, ◌≤◌, ◌<◌, List, ◌∷◌, ◌++◌, ◌↔◌, ◌≡◌, length}
use Rattle.floor.specs.declared.Floor.{Floor}
use Rattle.floor.specs.Checks.{start_of}
use Rattle.route.specs.Route.{cell_at, Answer, none, route, View, unheard, heard}
use Rattle.route.specs.Conflict.{ClearOf}
use Rattle.route.specs.Best.{IsRoute, Arrives, Admissible, Best}
use Rattle.route.specs.Search.{best}
use Rattle.route.specs.Arrival.{arrival_of}
use Rattle.records.specs.Records.{views_of, view_at}
use Rattle.records.specs.Seen.{seen_from, seen}
use Rattle.search.specs.Task.{task_of}
use Rattle.search.specs.Answers.{answered}
use Rattle.search.specs.Search.{search_of}
use Rattle.search.specs.Refused.{Granted}

pub record Claims : Type 0 where
  -- Of every floor that the checks pass and every carrier of it, the answer is the best one against the views above as they are seen.
  pub answers_best : (f : Floor) (ws : List ℕ) (i : ℕ) (m : List ℕ) (x : Answer) → search_of f ws i m ≡ answered x →
      Best (task_of f ws i) (seen f (views_of m i)) x
  -- There is an answer exactly if the request is granted.
  pub answers_exactly : (f : Floor) (ws : List ℕ) (i : ℕ) (m : List ℕ) →
      ((x : Answer) × (search_of f ws i m ≡ answered x)) ↔ Granted f ws i m
  -- What is answered is a route: from the start, across sides, off the walls, at its last cell, a dock, from its arrival through the
  -- horizon, and without conflict with any view as it is seen.
  pub answers_route : (f : Floor) (ws : List ℕ) (i : ℕ) (m r : List ℕ) → search_of f ws i m ≡ answered (route r) →
      IsRoute (task_of f ws i) r × Arrives f.horizon r (arrival_of r f.horizon)
      × ClearOf f.horizon r (seen f (views_of m i))
  -- None is answered exactly if the request is granted and no route is without conflict with every view as it is seen.
  pub none_exactly : (f : Floor) (ws : List ℕ) (i : ℕ) (m : List ℕ) → Granted f ws i m →
      (search_of f ws i m ≡ answered none) ↔ ((q : List ℕ) → Admissible (task_of f ws i) (seen f (views_of m i)) q → ⊥)
  -- None, once heard from carrier j above (counted from 0), keeps the answered route off j's start at every beat.
  pub none_occupies : (f : Floor) (ws : List ℕ) (i : ℕ) (m r : List ℕ) (j t : ℕ) → search_of f ws i m ≡ answered (route r) → j + 1 < i →
      view_at m j ≡ heard none → t ≤ f.horizon → cell_at r t ≡ start_of f j → ⊥
  -- Not heard occupies nothing: such a view may be left out, the others being seen as before.
  pub unheard_left_out : (f : Floor) (ws : List ℕ) (i : ℕ) (vs vs' : List View) → f.horizon ≤ 63 →
      best (task_of f ws i) (seen f (vs ++ (unheard ∷ vs'))) ≡ best (task_of f ws i) (seen f vs ++ seen_from f (suc (length vs)) vs')
