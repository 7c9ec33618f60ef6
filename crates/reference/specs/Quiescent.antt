-- Idle and quiescent prefixes, and the number of steps taken in a list of calls (document 01, 'What demand 3 compares').
use Rattle.std.specs.Prelude.{ℕ, suc, ◌+◌, ◌-◌, ◌^◌, Bool, ◌&&◌, not, List, [], ◌∷◌}
use Rattle.laws.specs.Verdict.{value, refusal, each}
use Rattle.reference.specs.State.{State}
use Rattle.reference.specs.Step.{is_empty}
use Rattle.reference.specs.Calls.{Reply, stepped, ran}

-- Carrier i is not due, and nothing is under way to it from the carriers above it.
unfoldable pub idle_at : State → ℕ → Bool
idle_at s i = not (s.due i) && each i (λ j. is_empty (s.chan i j))

-- The first k carriers are idle: none of them is due and nothing is under way among them.
unfoldable pub idle : ℕ → State → Bool
idle k s = each k (idle_at s)

-- The first k carriers are quiescent (the paper's 'quiet'): they are idle.
unfoldable pub quiescent : ℕ → State → Bool
quiescent k s = idle k s

-- The number of steps that an answer tells of: a single step is one, a run as many as it returned.
unfoldable pub reply_count : Reply → ℕ
reply_count (value (stepped x)) = 1
reply_count (value (ran t x)) = t
reply_count (refusal number place) = 0

-- The number of single steps taken plus the numbers that the runs returned.
unfoldable pub replies_count : List Reply → ℕ
replies_count [] = 0
replies_count (x ∷ xs) = reply_count x + replies_count xs

-- The step ceiling: the most steps for n carriers.
unfoldable pub ceiling : ℕ → ℕ
ceiling n = 2 ^ suc n - n - 2
