-- The failing carrier as memory has it, and the records of a whole plan.
use Prim.Native.Nat.{ℕ, ◌+◌, ◌*◌, ◌≤◌}
use mathlib.Core.Path.{◌≡◌}
use mathlib.Core.List.{List}
use lib.ListN.{length}
use Rattle.floor.specs.declared.Floor.{Floor}
use Rattle.route.specs.Sequential.{sequential}
use Rattle.search.specs.Task.{task_of_rows}
use Rattle.laws.specs.Memory.{put}
use Rattle.planner.specs.Plan.{respond_of, respond_with, plan_of, failing_of}
use Rattle.planner.specs.Records.{first_from}
use Rattle.records.specs.Records.{records_of, stored}
use Rattle.records.proofs.RecordLaws.{plan_length}
use Rattle.records.specs.Seen.{seen}
use Rattle.planner.proofs.PlanLaws.{best_whole, respond_whole}
use Rattle.planner.proofs.FailingLaws.{AllWhole, first_failing, plan_whole, plan_count}

-- The failing carrier, read off the memory.
pub plan_fails : (f : Floor) (rows : List ℕ) → f.horizon ≤ 63 → (n : ℕ) (old m : List ℕ)
    → m ≡ stored (sequential (respond_with f rows) n) old
    → first_from m 0 n ≡ failing_of (sequential (respond_with f rows) n)
unfolding stored put respond_with task_of_rows
plan_fails f rows h n old m e =
    first_failing (sequential (respond_with f rows) n) m _ n e (plan_count (respond_with f rows) n)
    (plan_whole (respond_with f rows) (λ k vs. best_whole (task_of_rows f rows (k + 1)) (seen f vs) h) n)

-- All records of a plan are whole.
pub plan_all_whole : (f : Floor) (ws : List ℕ) → f.horizon ≤ 63 → AllWhole (plan_of f ws)
unfolding plan_of
plan_all_whole f ws h = plan_whole (respond_of f ws) (respond_whole f ws h) f.carriers

-- They have 65 numbers a carrier.
pub plan_size : (f : Floor) (ws : List ℕ) → f.horizon ≤ 63 → length (records_of (plan_of f ws)) ≡ 65 * f.carriers
unfolding plan_of
plan_size f ws h = plan_length (respond_of f ws) (respond_whole f ws h) f.carriers
