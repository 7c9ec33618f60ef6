-- Inner matter: nothing claimed rests on this. What the inner functions are proved against.
use Rattle.std.specs.Prelude.{ℕ, cond, ◌||◌, List, ◌≡◌, eqb, length, replicate}
use Rattle.floor.specs.declared.Floor.{Floor}
use Rattle.records.specs.Records.{stored}
use Rattle.planner.specs.Plan.{plan_of}

-- The sequential answers of a floor stand in front of a memory for eight carriers.
pub record PlanIn (f : Floor) (ws m : List ℕ) : Type 0 where
  pub long : length m ≡ 520
  pub stores : m ≡ stored (plan_of f ws) (replicate 520 0)

-- The digit of a record with this tag: 1 if it is heard, else 0.
unfoldable pub heard_digit : ℕ → ℕ
heard_digit tag = cond (eqb tag 1 || eqb tag 2) 1 0
