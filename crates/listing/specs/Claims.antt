-- What is claimed of the complete runs, for any number of carriers, any depth and any best response; `proofs/Theorems.antt` has the proofs.
use Rattle.std.specs.Prelude.{ℕ, ◌≤◌, ◌<◌, ◌↔◌, ◌≡◌, length}
use Rattle.reference.specs.State.{Machine, fresh}
use Rattle.reference.specs.Quiescent.{ceiling}
use Rattle.orders.specs.Orders.{places, step_at}
use Rattle.listing.specs.Runs.{Run, total, run_at}
use Rattle.listing.specs.Order.{Complete, EarlierRun}

pub record Claims : Type 0 where
  -- A step has one place of the ranking.
  pub one_place : (n p p' : ℕ) → p < places n → p' < places n → step_at n p ≡ step_at n p' → p ≡ p'
  -- A run is complete from fresh exactly if it is the run of a rank below the total.
  pub complete_exactly : (M : Machine) (xs : Run) →
      Complete M fresh xs ↔ ((rank : ℕ) × (rank < total M) × (run_at M rank ≡ xs))
  -- A run has one rank; so the total is the number of complete runs.
  pub one_rank : (M : Machine) (rank rank' : ℕ) → rank < total M → rank' < total M → run_at M rank ≡ run_at M rank' → rank ≡ rank'
  -- A smaller rank is an earlier run, and the other way round.
  pub ranked : (M : Machine) (rank rank' : ℕ) → rank < total M → rank' < total M →
      (rank < rank') ↔ EarlierRun M.carriers (run_at M rank) (run_at M rank')
  -- A run has at most as many steps as the ceiling.
  pub within_ceiling : (M : Machine) (rank : ℕ) → rank < total M → length (run_at M rank) ≤ ceiling M.carriers
  -- There is a run.
  pub some_run : (M : Machine) → 0 < total M
