-- Inner matter: nothing claimed rests on this. A run over memory: the list is read from the front while steps are left and fewer are
-- taken than the budget; what is asked for and open is taken, anything else is passed over.
use Rattle.std.specs.Prelude.{ℕ, zero, suc, Bool, true, false, ◌&&◌, List, [], ◌∷◌, eqb}
use Rattle.reference.specs.State.{Machine}
use Rattle.reference.specs.Table.{Asked, step, no_step}
use Rattle.reference.specs.Ending.{RunEnding, ends_as}
use Rattle.encoding.specs.InnerSteps.{asked_open_in, after_in, silent_in}

-- What a run comes to: the memory after it, the number taken, whether steps are left unread.
pub record RanIn : Type 0 where
  pub memory : List ℕ
  pub taken : ℕ
  pub left : Bool

-- Run x with one more step taken at its front.
unfoldable pub took_one : RanIn → RanIn
took_one x = record { memory = x.memory; taken = suc x.taken; left = x.left }

-- The memory after what is asked for, which is open.
unfoldable pub asked_after_in : Machine → List ℕ → Asked → List ℕ
asked_after_in M m (step x) = after_in M m x
asked_after_in M m no_step = m

-- The run of a list with a budget.
unfoldable pub run_in : Machine → List ℕ → List Asked → ℕ → RanIn
run_in M m [] b = record { memory = m; taken = 0; left = false }
run_in M m (x ∷ xs) zero = record { memory = m; taken = 0; left = true }
run_in M m (x ∷ xs) (suc b) =
    elim (asked_open_in M m x) [ true ↦ took_one (run_in M (asked_after_in M m x) xs b) | false ↦ run_in M m xs (suc b) ]

-- The end of a run with budget b.
unfoldable pub ending_in : Machine → ℕ → RanIn → RunEnding
ending_in M b x = ends_as (silent_in M x.memory) (eqb x.taken b && x.left)
