-- Who shuts a carrier in (document 02, slip 8): the set that the entry answers suffices, is smallest, and is what the slip's procedure
-- gives. The definitions are those that the contract of `blockers::blockers` cites. Carriers count from 0, those of the entry from 1.
use Rattle.std.specs.Prelude.{ℕ, ◌+◌, ◌≤◌, ◌<◌, Bool, true, false, ◌⊎◌, ◌↔◌, ◌≡◌, length}
use mathlib.Core.List.{List, [], Memᴰ}
use Rattle.laws.specs.Verdict.{value}
use Rattle.floor.specs.declared.Floor.{Floor}
use Rattle.route.specs.Route.{View, Task}
use Rattle.route.specs.Conflict.{ShowsNoRoute}
use Rattle.route.specs.Best.{Admissible}
use Rattle.search.specs.Task.{task_of}
use Rattle.planner.specs.Records.{plan_memory}
use Rattle.lengths.specs.Figures.{lengths_of}
use Rattle.blockers.specs.Blockers.{blockers_of}
use Rattle.blockers.specs.Entry.{blockers_outcome, blockers_memory}
use Rattle.blockers.specs.Claims.{RouteAgainst, shuts_in, Stranded}

-- What the entry answers for a stranded carrier, and leaves in lent memory m.
pub record TellsBlockers (f : Floor) (ws : List ℕ) (i : ℕ) (m : List ℕ) : Type 0 where
  -- The set that the procedure gives: from carrier 1 downwards in rank, each that can go is left out.
  pub set : blockers_outcome f ws (i + 1) (length m) ≡ value (blockers_of f ws i)
  -- The sequential answers, as planning leaves them.
  pub answers : blockers_memory f ws (i + 1) m ≡ plan_memory f ws m

pub record Blockers : Type 0 where
  -- A stranded carrier, with memory of the needed length, is not refused.
  pub tells : (f : Floor) (ws : List ℕ) (i : ℕ) (m : List ℕ) → Stranded f ws i → (lengths_of f).answers ≤ length m → TellsBlockers f ws i m
  -- The set has only carriers above.
  pub only_above : (f : Floor) (ws : List ℕ) (i j : ℕ) → Stranded f ws i → shuts_in f ws i j ≡ true → j < i
  -- It suffices: against those answers alone there is no route.
  pub suffices : (f : Floor) (ws : List ℕ) (i : ℕ) → Stranded f ws i → (q : List ℕ) → RouteAgainst f ws i (shuts_in f ws i) q → ⊥
  -- It is smallest: against any part of it that lacks one of it there is a route.
  pub smallest : (f : Floor) (ws : List ℕ) (i : ℕ) → Stranded f ws i → (φ : ℕ → Bool) →
      ((j : ℕ) → φ j ≡ true → shuts_in f ws i j ≡ true) → (k : ℕ) → shuts_in f ws i k ≡ true → φ k ≡ false →
      (q : List ℕ) × RouteAgainst f ws i φ q
  -- It is empty, walls or the horizon being the cause, exactly if there is no route on the empty floor.
  pub empty_exactly : (f : Floor) (ws : List ℕ) (i : ℕ) → Stranded f ws i →
      (blockers_of f ws i ≡ 0) ↔ ((q : List ℕ) → Admissible (task_of f ws (i + 1)) [] q → ⊥)
  -- Fewer views never take a route away: one that is admissible stays so against views each of which was there, or shows nothing.
  pub fewer_views : (task : Task) (vs vs' : List View) (q : List ℕ) → ((v : View) → Memᴰ v vs' → ShowsNoRoute v ⊎ Memᴰ v vs) →
      Admissible task vs q → Admissible task vs' q
