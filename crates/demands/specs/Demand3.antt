-- Demand 3 (document 01, 'What demand 3 compares'): one claim over every list of single steps and runs on an accepted floor, refused
-- ones included, in any delivery order, from a fresh state in any memory that is long enough. The definitions folded over the list are
-- those that the contracts of `machine::fresh`, `machine::step` and `machine::run` cite.
use Rattle.std.specs.Prelude.{ℕ, ◌-◌, ◌≤◌, min, true, ◌⊎◌, ◌↔◌, ◌≡◌, length, take, drop}
use mathlib.Core.List.{List, [], ◌∷◌, ◌++◌, Memᴰ}
use Rattle.laws.specs.Verdict.{passed, value, refusal}
use Rattle.floor.specs.declared.Floor.{Floor}
use Rattle.floor.specs.Checks.{check_of}
use Rattle.planner.specs.Plan.{plan_of}
use Rattle.reference.specs.Ranges.{below}
use Rattle.reference.specs.State.{Machine, State}
use Rattle.reference.specs.Step.{Step, is_there, is_open}
use Rattle.reference.specs.Ranking.{is_silent}
use Rattle.reference.specs.Run.{run}
use Rattle.reference.specs.History.{FaithfulRun}
use Rattle.reference.specs.Table.{Call}
use Rattle.reference.specs.Refused.{Waits}
use Rattle.reference.specs.Calls.{CallAnswer, reply, after_call}
use Rattle.reference.specs.Quiescent.{idle, quiescent, reply_count, replies_count, ceiling}
use Rattle.encoding.specs.Places.{state_size}
use Rattle.encoding.specs.Encode.{encode}
use Rattle.encoding.specs.Ranges.{WithinRanges}
use Rattle.encoding.specs.Calls.{machine_of, reply_to, memory_after}
use Rattle.demands.specs.Lists.{ProgramCall, one_run, answer_of, program_replies, program_memory, reference_replies, reference_after}

module _ (f : Floor) (ws m : List ℕ) (calls : List ProgramCall) where
  -- The reference machine of the floor, and its state after the calls.
  abbrev M : Machine
  M = machine_of f ws

  abbrev s : State
  s = reference_after f ws (length m) calls

  -- What holds of the calls on floor f with walls ws, from the fresh state in memory m.
  pub record Holds : Type 0 where
    -- The program's answers, with number and place of each refusal, are the reference machine's in the same order.
    pub answers : program_replies f ws m calls ≡ reference_replies f ws (length m) calls
    -- Its state is the reference machine's in every part, and memory beyond the needed length is as it was.
    pub memory : program_memory f ws m calls ≡ encode f.carriers s ++ drop (state_size f.carriers) m
    -- That state is within the ranges, so that its memory shows every part of it.
    pub within_ranges : WithinRanges f s
    -- Refusal 10 never comes up.
    pub never_ten : (p : ℕ) → Memᴰ (refusal 10 p) (program_replies f ws m calls) → ⊥
    -- In a run after these calls every step taken was open, no open step was passed over, the list is read from the front, and the
    -- number taken is that of its history, never above the budget.
    pub faithful : (xs : List Step) (b : ℕ) → FaithfulRun M s xs b (run M s xs b)
    -- The steps taken are at most 2^(n + 1) − n − 2.
    pub ceiling_kept : replies_count (program_replies f ws m calls) ≤ ceiling f.carriers
    -- Some step is open, or the machine is silent.
    pub progress : ((x : Step) × (is_open M s x ≡ true)) ⊎ (is_silent M s ≡ true)
    -- It is silent exactly if nobody is due and nothing is under way.
    pub silent_idle : is_silent M s ≡ idle f.carriers s
    -- Where carriers 1 to k are quiescent, their answers are the sequential planner's,
    pub quiescent_answers : (k : ℕ) → k ≤ f.carriers → quiescent k s ≡ true → below k s.answer ≡ take k (plan_of f ws)
    -- and are the same after every longer list that begins with this one.
    pub quiescent_answers_stay : (later : List ProgramCall) (k : ℕ) → quiescent k s ≡ true →
        below k (reference_after f ws (length m) (calls ++ later)).answer ≡ below k s.answer
    -- The taken count is the number of single steps taken plus the numbers that the runs returned, or 999,999 if that is more.
    pub counted : s.taken ≡ min 999999 (replies_count (program_replies f ws m calls))

  -- The number that a run returns after the calls.
  abbrev pub returned : ℕ → ℕ → List ℕ → ℕ → ℕ
  returned k n xs b = reply_count (answer_of f ws (program_memory f ws m calls) (one_run k n xs b))

  module _ (k n : ℕ) (xs ys : List ℕ) (b : ℕ) where
    -- The calls and then a run of xs and ys; the calls and then a run of xs and one of ys with what is left of the budget.
    abbrev whole : List ProgramCall
    whole = calls ++ (one_run k n (xs ++ ys) b ∷ [])

    abbrev parts : List ProgramCall
    parts = calls ++ (one_run k n xs b ∷ one_run k n ys (b - returned k n xs b) ∷ [])

    -- Both ways lead to the same memory, the same state of the reference machine and the same number of steps taken.
    pub record Cut : Type 0 where
      pub memory : program_memory f ws m whole ≡ program_memory f ws m parts
      pub state : reference_after f ws (length m) whole ≡ reference_after f ws (length m) parts
      pub taken : replies_count (program_replies f ws m whole) ≡ replies_count (program_replies f ws m parts)

-- A call x on the memory of state s, with any numbers behind it: the program simulates the reference machine.
pub record Simulates (f : Floor) (ws : List ℕ) (s : State) (rest : List ℕ) (x : Call) : Type 0 where
  pub answer : reply_to f ws (encode f.carriers s ++ rest) x ≡ reply (machine_of f ws) s x
  pub memory : memory_after f ws (encode f.carriers s ++ rest) x ≡ encode f.carriers (after_call (machine_of f ws) s x) ++ rest
  pub within_ranges : WithinRanges f (after_call (machine_of f ws) s x)

pub record Demand3 : Type 0 where
  -- All this after every list of calls on every accepted floor.
  pub holds : (f : Floor) (ws m : List ℕ) → check_of f ws ≡ passed → state_size f.carriers ≤ length m → (calls : List ProgramCall) →
      Holds f ws m calls
  -- A point inside a run that is not refused is the end of the same run with its list cut there, and the rest of the list, with
  -- what is left of the budget, counts as a later call.
  pub cut_anywhere : (f : Floor) (ws m : List ℕ) → check_of f ws ≡ passed → state_size f.carriers ≤ length m → (calls : List ProgramCall)
      (k n : ℕ) (xs ys : List ℕ) (b : ℕ) (told : CallAnswer) →
      answer_of f ws (program_memory f ws m calls) (one_run k n (xs ++ ys) b) ≡ value told →
      Cut f ws m calls k n xs ys b
  -- The simulation from every state within the ranges, reached or not, one with a count of 999,999 included.
  pub simulates : (f : Floor) (ws : List ℕ) → check_of f ws ≡ passed → (s : State) → WithinRanges f s → (rest : List ℕ) (x : Call) →
      Simulates f ws s rest x
  -- A step is open exactly if it is there and waits for none of the things that refusals 8, 12 and 13 name (document 02, slip 3).
  pub open_exactly : (M : Machine) (s : State) (x : Step) → (is_open M s x ≡ true) ↔
      ((is_there M x ≡ true) × ((k p : ℕ) → Waits M s x k p → ⊥))
