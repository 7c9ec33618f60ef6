-- The table of refusals of a call, one constructor a row, with number and place, under exactly document 01's condition (for 8, 12 and 13
-- document 02's, slip 3); each holds only where no earlier row does. A claim says that `verdict` is this table.
use Rattle.std.specs.Prelude.{ℕ, ◌+◌, ◌≤◌, ◌<◌, true, false, List, [], ◌≡◌, length, get_or}
use Rattle.laws.specs.Verdict.{First}
use Rattle.reference.specs.State.{Machine, State}
use Rattle.reference.specs.Step.{Step, plan, deliver, is_there}
use Rattle.reference.specs.Table.{Asked, step, no_step, is_named, Call, single, run_of}

-- p is the first place of the list, from 0, which names no kind of step, no carrier, or a sender not above the receiver.
abbrev pub FirstUnnamed : Machine → List Asked → ℕ → Type 0
FirstUnnamed M xs p = First (λ i. is_named M (get_or xs i no_step) ≡ true) (length xs) p

-- k is the smallest carrier, from 0, whose channel from i is full: it is below i, and the channel has no fewer than depth messages.
abbrev pub FirstFull : Machine → State → ℕ → ℕ → Type 0
FirstFull M s i k = First (λ j. i < j → length (s.chan j i) < M.depth) M.carriers k

-- The thing that a step waits for, with its number and its place; carriers are told from 1.
pub data Waits (M : Machine) (s : State) : Step → ℕ → ℕ → Type 0 where
  -- 8, 0: the plan of a carrier that is not due.
  not_due : {i : ℕ} → s.due i ≡ false → Waits M s (plan i) 8 0
  -- 12, the addressee: nothing is under way on the channel of a delivery.
  nothing_under_way : {j i : ℕ} → s.chan i j ≡ [] → Waits M s (deliver j i) 12 (1 + i)
  -- 13, the smallest receiver whose channel is full: the carrier is due, but a channel is full.
  channel_full : {i k : ℕ} → s.due i ≡ true → FirstFull M s i k → Waits M s (plan i) 13 (1 + k)

pub data RefusedCall (M : Machine) (s : State) : Call → ℕ → ℕ → Type 0 where
  -- 9, 0: lent memory is too short.
  short_single : {lent : ℕ} {x : Asked} → lent < M.needed → RefusedCall M s (single lent x) 9 0
  short_run : {lent : ℕ} {xs : List Asked} {b : ℕ} → lent < M.needed → RefusedCall M s (run_of lent xs b) 9 0
  -- 7, position: a single step has 0, a step of a run its position in the list.
  unnamed_single : {lent : ℕ} {x : Asked} → M.needed ≤ lent → is_named M x ≡ false → RefusedCall M s (single lent x) 7 0
  unnamed_run : {lent : ℕ} {xs : List Asked} {b p : ℕ} → M.needed ≤ lent → FirstUnnamed M xs p → RefusedCall M s (run_of lent xs b) 7 p
  -- 8, 12 or 13: a single step waits for something.
  waiting : {lent : ℕ} {x : Step} {k p : ℕ} → M.needed ≤ lent → is_there M x ≡ true → Waits M s x k p →
      RefusedCall M s (single lent (step x)) k p
