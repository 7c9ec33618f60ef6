-- What is claimed of the carriers that shut one in; `proofs/Theorems.antt` inhabits the record. Carriers count from 0; the floor is any
-- that the checks pass, and the carrier any that has none in the sequential result.
use Rattle.std.specs.Prelude.{ℕ, zero, suc, ◌+◌, ◌<◌, Bool, true, false, cond, ◌⊎◌, ◌↔◌, ◌≡◌}
use mathlib.Core.List.{List, [], ◌∷◌, Memᴰ}
use Rattle.laws.specs.Verdict.{passed}
use Rattle.floor.specs.declared.Floor.{Floor}
use Rattle.floor.specs.Checks.{check_of}
use Rattle.route.specs.Route.{Answer, none, View, unheard, heard, Task}
use Rattle.route.specs.Conflict.{ShowsNoRoute}
use Rattle.route.specs.Best.{Admissible}
use Rattle.records.specs.Seen.{seen}
use Rattle.bitrows.specs.Words.{digit}
use Rattle.search.specs.Task.{task_of}
use Rattle.planner.specs.Plan.{plan_of}
use Rattle.planner.specs.Claims.{answer_at}
use Rattle.blockers.specs.Blockers.{answers_above, blockers_of}

-- The views of answers, those of the carriers of a part being heard and the others not.
unfoldable pub views_of_part : (ℕ → Bool) → List Answer → List View
views_of_part φ [] = []
views_of_part φ (x ∷ xs) = cond (φ zero) (heard x) unheard ∷ views_of_part (λ j. φ (suc j)) xs

-- q is a route for carrier i without conflict with the answers of a part of the carriers above it, alone.
unfoldable pub RouteAgainst : Floor → List ℕ → ℕ → (ℕ → Bool) → List ℕ → Type 0
RouteAgainst f ws i φ q = Admissible (task_of f ws (i + 1)) (seen f (views_of_part φ (answers_above f ws i))) q

-- Carrier j is one of those that shut carrier i in.
unfoldable pub shuts_in : Floor → List ℕ → (i j : ℕ) → Bool
shuts_in f ws i j = digit (blockers_of f ws i) j

-- The carrier is there, and has none in the sequential result of an accepted floor.
pub record Stranded (f : Floor) (ws : List ℕ) (i : ℕ) : Type 0 where
  pub accepted : check_of f ws ≡ passed
  pub listed : i < f.carriers
  pub has_none : answer_at (plan_of f ws) i ≡ none

pub record Claims : Type 0 where
  -- Fewer views never take a route away: one that is admissible stays so against views each of which was there, or shows nothing.
  pub fewer_views : (task : Task) (vs vs' : List View) (q : List ℕ) → ((v : View) → Memᴰ v vs' → ShowsNoRoute v ⊎ Memᴰ v vs) →
      Admissible task vs q → Admissible task vs' q
  -- The set has only carriers above.
  pub only_above : (f : Floor) (ws : List ℕ) (i j : ℕ) → Stranded f ws i → shuts_in f ws i j ≡ true → j < i
  -- It suffices: against those answers alone there is no route.
  pub suffices : (f : Floor) (ws : List ℕ) (i : ℕ) → Stranded f ws i → (q : List ℕ) → RouteAgainst f ws i (shuts_in f ws i) q → ⊥
  -- It is smallest: against any part of it that lacks one of it there is a route.
  pub smallest : (f : Floor) (ws : List ℕ) (i : ℕ) → Stranded f ws i → (φ : ℕ → Bool) →
      ((j : ℕ) → φ j ≡ true → shuts_in f ws i j ≡ true) → (k : ℕ) → shuts_in f ws i k ≡ true → φ k ≡ false →
      (q : List ℕ) × RouteAgainst f ws i φ q
  -- It is empty exactly if there is no route on the empty floor.
  pub empty_exactly : (f : Floor) (ws : List ℕ) (i : ℕ) → Stranded f ws i →
      (blockers_of f ws i ≡ 0) ↔ ((q : List ℕ) → Admissible (task_of f ws (i + 1)) [] q → ⊥)
