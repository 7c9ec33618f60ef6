-- Inner matter: nothing claimed rests on this. The calls on a state in memory, number for number: their refusals, answers and memory.
use Rattle.std.specs.Prelude.{ℕ, List}
use Rattle.laws.specs.Verdict.{Verdict, refused, refusal, ◌then◌, demand, ◌gives◌, ◌then_answers◌, when_passed}
use Rattle.reference.specs.State.{Machine}
use Rattle.reference.specs.Step.{is_there}
use Rattle.reference.specs.Table.{Asked, step, no_step, Call, single, run_of, lent_enough, all_named}
use Rattle.reference.specs.Calls.{Reply, stepped, ran}
use Rattle.encoding.specs.InnerSteps.{waits_in, after_in, step_answer_in}
use Rattle.encoding.specs.InnerRuns.{run_in, ending_in}

-- 7, 0 if a single step is not named; otherwise what it waits for.
unfoldable pub single_verdict_in : Machine → List ℕ → Asked → Verdict
single_verdict_in M m (step x) = demand (is_there M x) 7 0 then waits_in M m x
single_verdict_in M m no_step = refused 7 0

-- What the table says of a call.
unfoldable pub verdict_in : Machine → List ℕ → Call → Verdict
verdict_in M m (single lent x) = lent_enough M lent then single_verdict_in M m x
verdict_in M m (run_of lent xs b) = lent_enough M lent then all_named M xs

-- The answer to a call.
unfoldable pub reply_in : Machine → List ℕ → Call → Reply
reply_in M m (single lent (step x)) = verdict_in M m (single lent (step x)) gives stepped (step_answer_in M m x)
reply_in M m (single lent no_step) = lent_enough M lent then_answers refusal 7 0
reply_in M m (run_of lent xs b) = verdict_in M m (run_of lent xs b) gives ran (run_in M m xs b).taken (ending_in M b (run_in M m xs b))

-- The memory after a call that is not refused, and after any call.
unfoldable pub granted_memory : Machine → List ℕ → Call → List ℕ
granted_memory M m (single lent (step x)) = after_in M m x
granted_memory M m (single lent no_step) = m
granted_memory M m (run_of lent xs b) = (run_in M m xs b).memory

unfoldable pub memory_in : Machine → List ℕ → Call → List ℕ
memory_in M m x = when_passed (verdict_in M m x) (granted_memory M m x) m
