-- What the helpers of the checks find out about numbers. Nothing claimed rests on this.
use Rattle.std.specs.Prelude.{ℕ, ◌≤◌, ◌<◌, List, ◌⊎◌, ◌≡◌, get_or}

-- k is the largest of the first n of some numbers, 0 where there is none.
pub record Largest (xs : List ℕ) (n k : ℕ) : Type 0 where
  pub upper : (i : ℕ) → i < n → get_or xs i 0 ≤ k
  pub met : (k ≡ 0) ⊎ ((i : ℕ) × (i < n) × (get_or xs i 0 ≡ k))
