-- What the planner's answer says in document 01's terms.
use Rattle.std.specs.Prelude.{ℕ, ◌+◌, ◌*◌, ◌≤◌, ◌<◌, List, length, Option, Result, unwrap_or}
use Rattle.floor.specs.declared.Floor.{Floor}
use Rattle.floor.specs.declared.Refusal.{Refusal}
use Rattle.floor.specs.Answers.{outcome_by}
use Rattle.laws.specs.Verdict.{Outcome, ◌gives◌}
use Rattle.search.specs.Rows.{Searchable}
use Rattle.planner.specs.Plan.{plan_of, failing_of, plan_verdict}

-- What the code's failing carrier says: its number, 0 if all have routes.
abbrev pub failing_meant : Option ℕ → ℕ
failing_meant i = unwrap_or i 0

-- What the code's answer says: the failing carrier of the plan that was made, or the refusal.
abbrev pub planned_outcome : Result (Option ℕ) Refusal → Outcome ℕ
planned_outcome x = outcome_by failing_meant x

-- What planning a floor answers, with that number of numbers lent: the failing carrier.
unfoldable pub plan_result : Floor → List ℕ → ℕ → Outcome ℕ
plan_result f ws lent = plan_verdict f ws lent gives failing_of (plan_of f ws)

-- What planning needs that is already checked: every carrier can be searched for, and its answer fits the lent memory.
pub record Plannable (f : Floor) (rows : List ℕ) (m : List ℕ) : Type 0 where
  pub some : 1 ≤ f.carriers
  pub few : f.carriers ≤ 8
  pub horizon : f.horizon ≤ 63
  pub lent : 65 * f.carriers ≤ length m
  pub searchable : (i : ℕ) (views : List ℕ) → i < f.carriers → 65 * i ≤ length views → Searchable f rows (i + 1) views
