-- Answers in memory: a record each, carrier by carrier.
use Rattle.std.specs.Prelude.{ℕ, zero, suc, ◌+◌, ◌*◌, List, cond, eqb, length, get_or}
use Rattle.laws.specs.Memory.{put}
use Rattle.floor.specs.declared.Floor.{Floor}
use Rattle.laws.specs.Verdict.{when_passed}
use Rattle.records.specs.Records.{records, record_of, stored}
use Rattle.planner.specs.Plan.{respond_with, plan_of, plan_verdict}

-- The memory with the best response of carrier i, counted from 0, stored behind the answers above it, which it shows.
unfoldable pub with_answer : Floor → List ℕ → ℕ → List ℕ → List ℕ
with_answer f rows i m = put m (65 * i) (record_of (respond_with f rows i (records m i)))

-- The lent memory after planning: the answers in front where the checks pass; all as it was with a refusal.
unfoldable pub plan_memory : Floor → List ℕ → List ℕ → List ℕ
plan_memory f ws old = when_passed (plan_verdict f ws (length old)) (stored (plan_of f ws) old) old

-- The first of the n records from record i on whose tag is no route's, counted from 1; 0 if there is none.
unfoldable pub first_from : List ℕ → ℕ → ℕ → ℕ
first_from m i zero = 0
first_from m i (suc n) = cond (eqb (get_or m (65 * i) 0) 2) (first_from m (i + 1) n) (i + 1)
