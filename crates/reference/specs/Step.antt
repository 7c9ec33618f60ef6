-- The steps (document 01, 'The machine'): which are there, what a step waits for, which are open; and when two answers are the same.
use Rattle.std.specs.Prelude.{ℕ, ◌+◌, Bool, true, false, ◌&&◌, ◌||◌, not, List, [], ◌∷◌, leb, ltb, eqb, length}
use Rattle.laws.specs.Verdict.{Verdict, ◌then◌, demand, demand_each, passes}
use Rattle.route.specs.Route.{Answer, none, route}
use Rattle.reference.specs.State.{Machine, State}

-- A step: plan i; deliver j to i.
pub data Step : Type 0 where
  plan : ℕ → Step
  deliver : ℕ → ℕ → Step

-- The step is there: its carriers are, the sender above the receiver.
unfoldable pub is_there : Machine → Step → Bool
is_there M (plan i) = ltb i M.carriers
is_there M (deliver j i) = ltb j i && ltb i M.carriers

-- The channel from i to carrier k has fewer than depth messages; a carrier that is not below i has no such channel.
unfoldable pub has_capacity : Machine → State → ℕ → ℕ → Bool
has_capacity M s i k = leb k i || ltb (length (s.chan k i)) M.depth

-- The list is empty.
unfoldable pub is_empty : List Answer → Bool
is_empty [] = true
is_empty (x ∷ rest) = false

-- What a step waits for, test by test. Plan i: that i is due (8), then capacity in each channel from i (13, the receiver). Deliver j to i:
-- a message there (12, the addressee). Places are carrier numbers from 1 (document 02, slip 3).
unfoldable pub waits_for : Machine → State → Step → Verdict
waits_for M s (plan i) = demand (s.due i) 8 0 then demand_each 13 1 (has_capacity M s i) M.carriers
waits_for M s (deliver j i) = demand (not (is_empty (s.chan i j))) 12 (1 + i)

-- The step is open: it is there, and waits for nothing.
unfoldable pub is_open : Machine → State → Step → Bool
is_open M s x = is_there M x && passes (waits_for M s x)

-- Two lists of cells are the same.
unfoldable pub same_cells : List ℕ → List ℕ → Bool
same_cells [] [] = true
same_cells [] (d ∷ r) = false
same_cells (c ∷ q) [] = false
same_cells (c ∷ q) (d ∷ r) = eqb c d && same_cells q r

-- Two answers are the same.
unfoldable pub same_answer : Answer → Answer → Bool
same_answer none none = true
same_answer none (route r) = false
same_answer (route q) none = false
same_answer (route q) (route r) = same_cells q r
