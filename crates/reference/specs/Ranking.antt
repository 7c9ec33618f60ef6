-- The ranking of steps: plans by carrier, then deliveries by sender, then by receiver; silence is that no ranked step is open.
use Rattle.std.specs.Prelude.{ℕ, suc, ◌+◌, ◌-◌, Bool, true, ◌&&◌, not, List, [], ◌∷◌, ◌++◌}
use Rattle.reference.specs.Ranges.{below, joined}
use Rattle.reference.specs.State.{Machine, State}
use Rattle.reference.specs.Step.{Step, plan, deliver, is_open}

-- The deliveries from carrier j to each of the carriers below it, of n.
unfoldable pub deliveries_from : ℕ → ℕ → List Step
deliveries_from n j = below (n - suc j) (λ d. deliver j (suc j + d))

-- The steps of n carriers, in their ranking.
unfoldable pub ranking : ℕ → List Step
ranking n = below n plan ++ joined n (deliveries_from n)

-- No step of a list is open.
unfoldable pub none_open : Machine → State → List Step → Bool
none_open M s [] = true
none_open M s (x ∷ xs) = not (is_open M s x) && none_open M s xs

-- Silent: no step is open.
unfoldable pub is_silent : Machine → State → Bool
is_silent M s = none_open M s (ranking M.carriers)
