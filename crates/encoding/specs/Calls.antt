-- The calls on a lent state (document 01, 'Refused', 'The machine'): their refusals in order, their answers, and the memory after them,
-- each by the reference machine on the state that the memory shows.
use Rattle.std.specs.Prelude.{ℕ, List, map, length}
use Rattle.laws.specs.Verdict.{Verdict, ◌then◌, demand, ◌then_answers◌, when_passed}
use Rattle.laws.specs.Memory.{put}
use Rattle.floor.specs.declared.Floor.{Floor}
use Rattle.floor.specs.Checks.{check_of, long_enough}
use Rattle.planner.specs.Plan.{respond_of}
use Rattle.reference.specs.State.{Machine, State, fresh}
use Rattle.reference.specs.Table.{Call, single, run_of}
use Rattle.reference.specs.Calls.{Reply, reply, after_call}
use Rattle.encoding.specs.Places.{state_size}
use Rattle.encoding.specs.Encode.{encode}
use Rattle.encoding.specs.Decode.{decode}
use Rattle.encoding.specs.Valid.{valid}
use Rattle.encoding.specs.Numbers.{asked_by}

-- The reference machine of a floor: its carriers, its depth, the needed length of its state, the best routes.
unfoldable pub machine_of : Floor → List ℕ → Machine
machine_of f ws = record { carriers = f.carriers; depth = f.depth; needed = state_size f.carriers; respond = respond_of f ws }

-- The refusals of a lent place for a state: the floor's, then 9.
unfoldable pub place_verdict : Floor → List ℕ → ℕ → Verdict
place_verdict f ws lent = check_of f ws then long_enough (state_size f.carriers) lent

-- The refusals of a lent state: the floor's, 9, then 10.
unfoldable pub state_verdict : Floor → List ℕ → List ℕ → Verdict
state_verdict f ws m = place_verdict f ws (length m) then demand (valid f m) 10 0

-- The state that a memory shows, and the memory with a state in its front.
abbrev pub state_in : Floor → List ℕ → State
state_in f m = decode f.carriers m

abbrev pub with_state : Floor → List ℕ → State → List ℕ
with_state f m s = put m 0 (encode f.carriers s)

-- The fresh state in lent memory.
unfoldable pub fresh_memory : Floor → List ℕ → List ℕ → List ℕ
fresh_memory f ws m = when_passed (place_verdict f ws (length m)) (with_state f m fresh) m

-- The answer to a call on a lent state: the refusals of the state, then the reference machine's answer on the state that it shows.
unfoldable pub reply_to : Floor → List ℕ → List ℕ → Call → Reply
reply_to f ws m x = state_verdict f ws m then_answers reply (machine_of f ws) (state_in f m) x

-- The memory after a call: the reference machine's next state in its front, the rest as it was; all as it was with a refusal.
unfoldable pub memory_after : Floor → List ℕ → List ℕ → Call → List ℕ
memory_after f ws m x = when_passed (state_verdict f ws m) (with_state f m (after_call (machine_of f ws) (state_in f m) x)) m

-- The calls that the entries make of their arguments.
unfoldable pub single_call : List ℕ → ℕ → Call
single_call m x = single (length m) (asked_by x)

unfoldable pub run_call : List ℕ → List ℕ → ℕ → Call
run_call m xs b = run_of (length m) (map asked_by xs) b
