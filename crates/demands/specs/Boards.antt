-- Steps at different boards (document 02, slip 5). First, on the program's memory: two steps that stand apart may be called in either
-- order. Then, on floors, sheets and printed lines: without its last carrier an accepted floor gives the others the same sequential
-- answers. The definitions folded over the calls are those that the contracts of `machine::step` and `machine::run` cite.
use Rattle.std.specs.Prelude.{ℕ, ◌+◌, ◌≤◌, ◌<◌, List, [], ◌∷◌, ◌++◌, map, ◌≡◌, length}
use Rattle.laws.specs.Verdict.{passed, value}
use Rattle.floor.specs.declared.Floor.{Floor}
use Rattle.floor.specs.Checks.{check_of}
use Rattle.sheet.specs.Values.{floor_at}
use Rattle.sheet.specs.Read.{read_verdict}
use Rattle.reference.specs.State.{Machine, State}
use Rattle.reference.specs.Step.{Step}
use Rattle.reference.specs.Take.{step_answer}
use Rattle.reference.specs.Run.{took, run}
use Rattle.reference.specs.History.{Faithful}
use Rattle.reference.specs.Table.{step, steps_of}
use Rattle.reference.specs.Calls.{stepped}
use Rattle.reference.specs.Meeting.{Apart, Exchanged}
use Rattle.encoding.specs.Places.{state_size}
use Rattle.encoding.specs.Encode.{encode}
use Rattle.encoding.specs.Ranges.{WithinRanges}
use Rattle.encoding.specs.Numbers.{asked_by}
use Rattle.encoding.specs.Calls.{machine_of}
use Rattle.demands.specs.Lists.{ProgramCall, one_step, one_run, answer_of, left_by, answers_of, memory_of}
use Rattle.demands.specs.Shorter.{Shortened, ShortenedSheet}

module _ (f : Floor) (ws : List ℕ) (s : State) (k n : ℕ) where
  -- A state within the ranges of an accepted floor, and calls that are each lent k walls and n numbers of its memory, which is enough.
  pub record Ready : Type 0 where
    pub accepted : check_of f ws ≡ passed
    pub within_ranges : WithinRanges f s
    pub walls : f.walls ≤ k
    pub lent : state_size f.carriers ≤ n

  module _ (rest : List ℕ) where
    -- The reference machine of the floor, and the memory of the state with any numbers behind it.
    abbrev M : Machine
    M = machine_of f ws

    abbrev m : List ℕ
    m = encode f.carriers s ++ rest

    -- Numbers x and y name the steps one and other: both orders of the two calls leave the same memory, and each step is taken and gets the
    -- same answer in either order.
    pub record EitherOrder (x y : ℕ) (one other : Step) : Type 0 where
      pub memory : memory_of f ws m (one_step k n x ∷ one_step k n y ∷ []) ≡ memory_of f ws m (one_step k n y ∷ one_step k n x ∷ [])
      pub answers : answers_of f ws m (one_step k n x ∷ one_step k n y ∷ []) ≡
          value (stepped (step_answer M s one)) ∷ value (stepped (step_answer M s other)) ∷ []
      pub reversed : answers_of f ws m (one_step k n y ∷ one_step k n x ∷ []) ≡
          value (stepped (step_answer M s other)) ∷ value (stepped (step_answer M s one)) ∷ []

    -- Two calls get the same answer and leave the same memory.
    pub record SameCall (x y : ProgramCall) : Type 0 where
      pub answer : answer_of f ws m x ≡ answer_of f ws m y
      pub memory : left_by f ws m x ≡ left_by f ws m y

pub record Boards : Type 0 where
  -- Two single calls of steps that stand apart.
  pub either_order : (f : Floor) (ws : List ℕ) (s : State) (k n : ℕ) → Ready f ws s k n → (rest : List ℕ) (x y : ℕ) (one other : Step) →
      asked_by x ≡ step one → asked_by y ≡ step other → Apart (machine_of f ws) s one other → EitherOrder f ws s k n rest x y one other
  -- Neighbours inside a run that stand apart where the run comes to them, with budget left for both.
  pub run_neighbours : (f : Floor) (ws : List ℕ) (s : State) (k n : ℕ) → Ready f ws s k n →
      (rest xs ys : List ℕ) (b x y : ℕ) (one other : Step) →
      asked_by x ≡ step one → asked_by y ≡ step other → (run (machine_of f ws) s (steps_of (map asked_by xs)) b).taken + 2 ≤ b →
      Apart (machine_of f ws) (run (machine_of f ws) s (steps_of (map asked_by xs)) b).state one other →
      SameCall f ws s k n rest (one_run k n (xs ++ (x ∷ (y ∷ ys))) b) (one_run k n (xs ++ (y ∷ (x ∷ ys))) b)
  -- Any two histories that differ by exchanging such neighbours, taken by single calls, end in the same memory.
  pub exchanged : (f : Floor) (ws : List ℕ) (s : State) (k n : ℕ) → Ready f ws s k n → (rest xs ys : List ℕ) (steps steps' : List Step) →
      map asked_by xs ≡ map step steps → map asked_by ys ≡ map step steps' → Faithful (machine_of f ws) s (map took steps) →
      Exchanged (machine_of f ws) s steps steps' →
      memory_of f ws (encode f.carriers s ++ rest) (map (one_step k n) xs) ≡
      memory_of f ws (encode f.carriers s ++ rest) (map (one_step k n) ys)
  -- Dropping the last carrier from an accepted floor of more than one: the other carriers' sequential answers are the same, on records, on
  -- sheets and on the printed lines.
  pub drop_last_lem : (f : Floor) (ws : List ℕ) → check_of f ws ≡ passed → 1 < f.carriers → Shortened f ws
  pub drop_last_line : (text lent : List ℕ) → read_verdict text (length lent) ≡ passed → 1 < (floor_at text).carriers →
      ShortenedSheet text lent
