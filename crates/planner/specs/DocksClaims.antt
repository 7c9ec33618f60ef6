-- The claims of document 02's slip 10 (several docks) about plans, responses and searches; `proofs/DocksTheorems.antt` inhabits the record.
-- Carriers count from 0, in tasks and searches from 1.
use Rattle.std.specs.Prelude.{ℕ, ◌+◌, ◌-◌, ◌≤◌, ◌<◌, true, ◌≡◌, ◌↔◌, List, map, length, get_or, take}
use Rattle.laws.specs.Verdict.{passed, value}
use Rattle.floor.specs.declared.Floor.{Floor}
use Rattle.floor.specs.Checks.{check_of, is_dock}
use Rattle.floor.specs.Accepted.{SameDocks}
use Rattle.floor.specs.OneDock.{OneDockFloor, earlier_check, with_one_dock}
use Rattle.route.specs.Route.{cell_at, Answer, none, route, View, heard}
use Rattle.route.specs.Search.{best}
use Rattle.route.specs.Arrival.{arrival_of}
use Rattle.route.specs.Docks.{alone}
use Rattle.route.specs.OneGoal.{ArrivesAt, BestTo}
use Rattle.records.specs.Records.{views_of}
use Rattle.records.specs.Seen.{seen}
use Rattle.search.specs.Task.{task_of}
use Rattle.search.specs.Search.{search_of}
use Rattle.planner.specs.Plan.{respond_of, plan_of}
use Rattle.planner.specs.Claims.{answer_at}

-- Prioritized planning on document 01's floor, by its letter: each carrier in turn has the best answer to its one goal against the answers
-- above it, one with none staying at its start.
pub record PrioritizedTo (old : OneDockFloor) (ws : List ℕ) (xs : List Answer) : Type 0 where
  pub every : length xs ≡ old.carriers
  pub best : (k : ℕ) → k < old.carriers →
      BestTo (get_or old.goals k 0) (task_of (with_one_dock old) ws (k + 1)) (seen (with_one_dock old) (map heard (take k xs))) (answer_at xs k)

pub record DocksClaims : Type 0 where
  -- On every floor that document 01 accepts, with its goal as the one dock of a carrier, the plan is what document 01 gives with a goal,
  -- and nothing else is.
  pub earlier_plan : (old : OneDockFloor) (ws : List ℕ) (xs : List Answer) → earlier_check old ws ≡ passed →
      PrioritizedTo old ws xs ↔ (xs ≡ plan_of (with_one_dock old) ws)
  -- So is every response, to any views; the machine, trials, listed runs and blockers know the search only by its responses.
  pub earlier_response : (old : OneDockFloor) (ws : List ℕ) (i : ℕ) (vs : List View) (x : Answer) → earlier_check old ws ≡ passed →
      i < old.carriers →
      BestTo (get_or old.goals i 0) (task_of (with_one_dock old) ws (i + 1)) (seen (with_one_dock old) vs) x ↔
      (x ≡ respond_of (with_one_dock old) ws i vs)
  -- So is every search, to the views that its memory shows, and the arrival of a route that is answered is document 01's.
  pub earlier_search : (old : OneDockFloor) (ws : List ℕ) (i : ℕ) (m : List ℕ) (x : Answer) → earlier_check old ws ≡ passed →
      search_of (with_one_dock old) ws i m ≡ value x →
      BestTo (get_or old.goals (i - 1) 0) (task_of (with_one_dock old) ws i) (seen (with_one_dock old) (views_of m i)) x
  pub earlier_arrival : (old : OneDockFloor) (ws : List ℕ) (i : ℕ) (vs : List View) (r : List ℕ) → earlier_check old ws ≡ passed →
      i < old.carriers →
      respond_of (with_one_dock old) ws i vs ≡ route r → ArrivesAt (get_or old.goals i 0) old.horizon r (arrival_of r old.horizon)
  -- The order of a carrier's docks changes no plan, no response to views of carriers that are there, and no search.
  pub order_plan : (f f' : Floor) (ws : List ℕ) → SameDocks f f' → plan_of f ws ≡ plan_of f' ws
  pub order_response : (f f' : Floor) (ws : List ℕ) (i : ℕ) (vs : List View) → SameDocks f f' → i < f.carriers → length vs ≤ f.carriers →
      respond_of f ws i vs ≡ respond_of f' ws i vs
  pub order_search : (f f' : Floor) (ws : List ℕ) (i : ℕ) (m : List ℕ) → SameDocks f f' → search_of f ws i m ≡ search_of f' ws i m
  -- A response is none exactly if it is none with each of the carrier's docks alone.
  pub none_each : (f : Floor) (ws : List ℕ) (k : ℕ) (vs : List View) → check_of f ws ≡ passed →
      (respond_of f ws k vs ≡ none) ↔ ((d : ℕ) → is_dock f k d ≡ true → best (alone (task_of f ws (k + 1)) d) (seen f vs) ≡ none)
  -- A route that is answered ends at a dock of the carrier, is the answer with that dock alone, and arrives no later than the answer with
  -- any other of its docks alone.
  pub ends_at_dock : (f : Floor) (ws : List ℕ) (k : ℕ) (vs : List View) (r : List ℕ) → check_of f ws ≡ passed →
      respond_of f ws k vs ≡ route r → is_dock f k (cell_at r f.horizon) ≡ true
  pub own_dock : (f : Floor) (ws : List ℕ) (k : ℕ) (vs : List View) (r : List ℕ) → check_of f ws ≡ passed →
      respond_of f ws k vs ≡ route r → best (alone (task_of f ws (k + 1)) (cell_at r f.horizon)) (seen f vs) ≡ route r
  pub arrival_least : (f : Floor) (ws : List ℕ) (k : ℕ) (vs : List View) (r q : List ℕ) (d : ℕ) → check_of f ws ≡ passed →
      respond_of f ws k vs ≡ route r → is_dock f k d ≡ true → best (alone (task_of f ws (k + 1)) d) (seen f vs) ≡ route q →
      arrival_of r f.horizon ≤ arrival_of q f.horizon
