-- Lists of calls on one accepted floor (document 01, 'What demand 3 compares'). The first call gets the fresh state, each later one the
-- state as the call before it left it. Every call lends as much of the walls and of the memory as it likes.
use Rattle.std.specs.Prelude.{ℕ, min, cond, List, [], ◌∷◌, ◌++◌, map, leb, take, drop}
use Rattle.floor.specs.declared.Floor.{Floor}
use Rattle.reference.specs.State.{State, fresh}
use Rattle.reference.specs.Table.{Call, single, run_of}
use Rattle.reference.specs.Calls.{Reply, replies, after}
use Rattle.encoding.specs.Numbers.{asked_by}
use Rattle.encoding.specs.Calls.{machine_of, fresh_memory, reply_to, memory_after, single_call, run_call}

-- A call of the program: a single step or a run, with how many walls and how many numbers of the memory are lent to it.
pub data ProgramCall : Type 0 where
  one_step : (walls lent : ℕ) (number : ℕ) → ProgramCall
  one_run : (walls lent : ℕ) (numbers : List ℕ) (budget : ℕ) → ProgramCall

-- The program's answer to a call, by the definition that the entry's contract cites.
unfoldable pub answer_of : Floor → List ℕ → List ℕ → ProgramCall → Reply
answer_of f ws m (one_step walls lent x) = reply_to f (take walls ws) (take lent m) (single_call (take lent m) x)
answer_of f ws m (one_run walls lent xs b) = reply_to f (take walls ws) (take lent m) (run_call (take lent m) xs b)

-- The whole memory after a call: what is lent as the entry's contract says, the rest untouched.
unfoldable pub left_by : Floor → List ℕ → List ℕ → ProgramCall → List ℕ
left_by f ws m (one_step walls lent x) = memory_after f (take walls ws) (take lent m) (single_call (take lent m) x) ++ drop lent m
left_by f ws m (one_run walls lent xs b) = memory_after f (take walls ws) (take lent m) (run_call (take lent m) xs b) ++ drop lent m

-- The answers to a list of calls, in order, and the memory after it.
unfoldable pub answers_of : Floor → List ℕ → List ℕ → List ProgramCall → List Reply
answers_of f ws m [] = []
answers_of f ws m (x ∷ xs) = answer_of f ws m x ∷ answers_of f ws (left_by f ws m x) xs

unfoldable pub memory_of : Floor → List ℕ → List ℕ → List ProgramCall → List ℕ
memory_of f ws m [] = m
memory_of f ws m (x ∷ xs) = memory_of f ws (left_by f ws m x) xs

-- The program's answers to a list of calls from the fresh state in memory m, and the memory after it.
unfoldable pub program_replies : Floor → List ℕ → List ℕ → List ProgramCall → List Reply
program_replies f ws m calls = answers_of f ws (fresh_memory f ws m) calls

unfoldable pub program_memory : Floor → List ℕ → List ℕ → List ProgramCall → List ℕ
program_memory f ws m calls = memory_of f ws (fresh_memory f ws m) calls

-- The length of lent memory that the reference machine compares: none where fewer walls are lent than the floor counts, for that is
-- memory too short; otherwise what is there of the numbers lent.
unfoldable pub lent_length : Floor → ℕ → ℕ → ℕ → ℕ
lent_length f numbers walls lent = cond (leb f.walls walls) (min lent numbers) 0

-- The same call as the reference machine is given it: the arguments except the state's contents.
unfoldable pub reference_call : Floor → ℕ → ProgramCall → Call
reference_call f numbers (one_step walls lent x) = single (lent_length f numbers walls lent) (asked_by x)
reference_call f numbers (one_run walls lent xs b) = run_of (lent_length f numbers walls lent) (map asked_by xs) b

unfoldable pub reference_calls : Floor → ℕ → List ProgramCall → List Call
reference_calls f numbers calls = map (reference_call f numbers) calls

-- The reference machine's answers to a list of calls from fresh, there being memory for that number of numbers, and its state after it.
unfoldable pub reference_replies : Floor → List ℕ → ℕ → List ProgramCall → List Reply
reference_replies f ws numbers calls = replies (machine_of f ws) fresh (reference_calls f numbers calls)

unfoldable pub reference_after : Floor → List ℕ → ℕ → List ProgramCall → State
reference_after f ws numbers calls = after (machine_of f ws) fresh (reference_calls f numbers calls)
