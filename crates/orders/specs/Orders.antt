-- The three orders (document 02, slip 1). A place is a position of the ranking of steps, from 0. An order chooses one of the open
-- places, and remembers one number.
use Rattle.std.specs.Prelude.{ℕ, zero, suc, ◌%◌, Bool, true, false, List, [], ◌∷◌, ◌++◌, length, get_or}
use Rattle.reference.specs.State.{Machine, State}
use Rattle.reference.specs.Step.{Step, plan, is_open}
use Rattle.reference.specs.Ranking.{ranking}
use Rattle.orders.specs.Generator.{next_number, drawn_by}

-- Order 1, the first open step; order 2, round the ranking; order 3, by drawn numbers.
pub data Order : Type 0 where
  first : Order
  round : Order
  drawn : Order

-- How many steps n carriers have.
unfoldable pub places : ℕ → ℕ
places n = length (ranking n)

-- The step at a place of the ranking.
unfoldable pub step_at : ℕ → ℕ → Step
step_at n p = get_or (ranking n) p (plan 0)

-- The step at a place is open.
unfoldable pub open_at : Machine → State → ℕ → Bool
open_at M s p = is_open M s (step_at M.carriers p)

-- The places below k that pass a test, in order.
unfoldable pub passing : (ℕ → Bool) → ℕ → List ℕ
passing test zero = []
passing test (suc k) = passing test k ++ elim (test k) [ true ↦ k ∷ [] | false ↦ [] ]

-- The open places, in order.
unfoldable pub open_places : Machine → State → List ℕ
open_places M s = passing (open_at M s) (places M.carriers)

-- Which of the open places an order takes that remembers the number kept, counted from 0 and on from the first again behind the last: order
-- 1 the first; order 2 the one behind those before place kept; order 3 the one at the drawn number.
unfoldable pub turn : Order → Machine → State → ℕ → ℕ
turn first M s kept = 0
turn round M s kept = length (passing (open_at M s) kept)
turn drawn M s kept = drawn_by kept

-- The place that an order takes.
unfoldable pub chosen : Order → Machine → State → ℕ → ℕ
chosen o M s kept = get_or (open_places M s) (turn o M s kept % length (open_places M s)) 0

-- What an order remembers when it starts: order 3 the seed.
unfoldable pub start_memory : Order → ℕ → ℕ
start_memory first seed = 0
start_memory round seed = 0
start_memory drawn seed = seed

-- What an order remembers after it took place p: order 2 the place behind it, order 3 the generator's next number.
unfoldable pub remembered : Order → ℕ → ℕ → ℕ
remembered first kept p = 0
remembered round kept p = suc p
remembered drawn kept p = next_number kept
