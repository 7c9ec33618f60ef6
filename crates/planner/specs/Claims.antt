-- The claims about the sequential planner; `proofs/Theorems.antt` inhabits the record. Carriers count from 0.
use Rattle.std.specs.Prelude.{ℕ, suc, ◌+◌, ◌*◌, ◌≤◌, ◌<◌, ◌≡◌, ◌↔◌, ◌⊎◌, List, ◌∷◌, map, length, get_or, take, drop, replicate}
use Rattle.floor.specs.declared.Floor.{Floor}
use Rattle.laws.specs.Verdict.{passed, All}
use Rattle.floor.specs.Checks.{check_of, start_of, is_dock}
use Rattle.route.specs.Route.{cell_at, Answer, none, route, heard}
use Rattle.route.specs.Conflict.{ConflictFree}
use Rattle.route.specs.Best.{IsRoute, Best}
use Rattle.route.specs.Search.{best}
use Rattle.route.specs.Sequential.{sequential}
use Rattle.search.specs.Task.{task_of}
use Rattle.planner.specs.Plan.{plan_of, failing_of}
use Rattle.records.specs.Records.{stored}
use Rattle.records.specs.Seen.{seen}

-- The answer of carrier k in a plan.
unfoldable pub answer_at : List Answer → ℕ → Answer
answer_at xs k = get_or xs k none

-- The plan by document 01's rule alone, by which none occupies nothing; only the claim that compares the two rules uses it.
unfoldable pub plan_unseen : Floor → List ℕ → List Answer
plan_unseen f ws = sequential (λ i vs. best (task_of f ws (i + 1)) vs) f.carriers

-- Two floors agree in the grid, the horizon, the walls and the cells of the first k carriers.
pub record AgreeUpTo (k : ℕ) (f : Floor) (ws : List ℕ) (f' : Floor) (ws' : List ℕ) : Type 0 where
  pub width : f.width ≡ f'.width
  pub height : f.height ≡ f'.height
  pub horizon : f.horizon ≡ f'.horizon
  pub walls : f.walls ≡ f'.walls
  pub cells : All (λ (j : ℕ). get_or ws j 0 ≡ get_or ws' j 0) f.walls
  pub starts : All (λ (i : ℕ). start_of f i ≡ start_of f' i) k
  pub docks : All (λ (i : ℕ). (c : ℕ) → is_dock f i c ≡ is_dock f' i c) k

pub record Claims : Type 0 where
  -- Every carrier has an answer.
  pub answers_all : (f : Floor) (ws : List ℕ) → length (plan_of f ws) ≡ f.carriers
  -- Each carrier in turn has the best answer against the answers above it, one with none staying at its start.
  pub each_best : (f : Floor) (ws : List ℕ) (k : ℕ) → check_of f ws ≡ passed → k < f.carriers →
      Best (task_of f ws (k + 1)) (seen f (map heard (take k (plan_of f ws)))) (answer_at (plan_of f ws) k)
  -- Any two answered routes are free of conflict with each other.
  pub conflict_free : (f : Floor) (ws : List ℕ) (j k : ℕ) (r q : List ℕ) → check_of f ws ≡ passed → j < k → k < f.carriers →
      answer_at (plan_of f ws) j ≡ route q → answer_at (plan_of f ws) k ≡ route r → ConflictFree f.horizon r q
  -- No route of a plan is at any beat in the start of a carrier above it that has none.
  pub stranded_avoided : (f : Floor) (ws : List ℕ) (j k t : ℕ) (r : List ℕ) → check_of f ws ≡ passed → j < k → k < f.carriers →
      answer_at (plan_of f ws) j ≡ none → answer_at (plan_of f ws) k ≡ route r → t ≤ f.horizon → cell_at r t ≡ start_of f j → ⊥
  -- Where no carrier above has none, the answer is best against the answers above as they are (document 01's rule).
  pub unstranded_best : (f : Floor) (ws : List ℕ) (k : ℕ) → check_of f ws ≡ passed → k < f.carriers →
      ((j : ℕ) → j < k → answer_at (plan_of f ws) j ≡ none → ⊥) →
      Best (task_of f ws (k + 1)) (map heard (take k (plan_of f ws))) (answer_at (plan_of f ws) k)
  -- A floor on which one of the two rules leaves nobody stranded has the same plan by both.
  pub unstranded_plan : (f : Floor) (ws : List ℕ) → (failing_of (plan_of f ws) ≡ 0) ⊎ (failing_of (plan_unseen f ws) ≡ 0) →
      plan_of f ws ≡ plan_unseen f ws
  -- The failing carrier is the first with none, counted from 1.
  pub failing_first : (f : Floor) (ws : List ℕ) (k : ℕ) → failing_of (plan_of f ws) ≡ suc k →
      (k < f.carriers) × (answer_at (plan_of f ws) k ≡ none) × ((j : ℕ) → j < k → answer_at (plan_of f ws) j ≡ none → ⊥)
  -- It is 0 exactly if no carrier has none.
  pub failing_none : (f : Floor) (ws : List ℕ) →
      (failing_of (plan_of f ws) ≡ 0) ↔ ((j : ℕ) → j < f.carriers → answer_at (plan_of f ws) j ≡ none → ⊥)
  -- The answers of the first k carriers depend on those carriers alone, whatever follows them.
  pub depends_on_above : (k : ℕ) (f : Floor) (ws : List ℕ) (f' : Floor) (ws' : List ℕ) → k ≤ f.carriers → k ≤ f'.carriers →
      AgreeUpTo k f ws f' ws' → take k (plan_of f ws) ≡ take k (plan_of f' ws')
  -- Where no carrier has any route of its own, each has none, and carrier 1 is the failing carrier.
  pub all_none : (f : Floor) (ws : List ℕ) → check_of f ws ≡ passed →
      ((k : ℕ) (r : List ℕ) → k < f.carriers → IsRoute (task_of f ws (k + 1)) r → ⊥) →
      ((k : ℕ) → k < f.carriers → answer_at (plan_of f ws) k ≡ none) × (failing_of (plan_of f ws) ≡ 1)
  -- None is stored as none: its record has tag 1 and 64 zeros.
  pub none_stored : (f : Floor) (ws : List ℕ) (k : ℕ) (old : List ℕ) → check_of f ws ≡ passed → k < f.carriers →
      answer_at (plan_of f ws) k ≡ none → take 65 (drop (65 * k) (stored (plan_of f ws) old)) ≡ 1 ∷ replicate 64 0
