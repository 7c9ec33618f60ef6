-- Sums over the first carriers.
use Prim.Native.Nat.{ℕ, zero, suc, ◌+◌, ◌<◌}
use native.Mathlib.Omega.{arith}
use native.Mathlib.Nat.{eq-or-lt_of_le}
use mathlib.Core.Logic.{⊎_elim}
use mathlib.Core.Path.{◌≡◌, refl}

-- The sum of φ at 0 to k − 1.
unfoldable pub sum_to : ℕ → (ℕ → ℕ) → ℕ
sum_to zero φ = 0
sum_to (suc k) φ = sum_to k φ + φ k

pub sum_same : (k : ℕ) (φ ψ : ℕ → ℕ) → ((i : ℕ) → i < k → φ i ≡ ψ i) → sum_to k φ ≡ sum_to k ψ
unfolding sum_to
sum_same zero φ ψ h = refl
sum_same (suc k) φ ψ h = omega (arith, sum_same k φ ψ (λ i l. h i (omega arith)), h k (omega arith))

-- Where φ and ψ differ at one place i only, by φ i + d ≡ ψ i, so do their sums.
pub sum_less : (k i d : ℕ) (φ ψ : ℕ → ℕ) → i < k → φ i + d ≡ ψ i → ((n : ℕ) → n < k → (n ≡ i → ⊥) → φ n ≡ ψ n) →
    sum_to k φ + d ≡ sum_to k ψ
unfolding sum_to
sum_less zero i d φ ψ l e h = absurd (omega arith)
sum_less (suc k) i d φ ψ l e h =
    ⊎_elim (λ (q : suc i ≡ suc k). last (omega arith))
    (λ (q : suc i < suc k).
    omega (arith, sum_less k i d φ ψ (omega arith) e (λ n b. h n (omega arith)), h k (omega arith) (λ p. omega arith)))
    (eq-or-lt_of_le l)
  where
    last : i ≡ k → sum_to k φ + φ k + d ≡ sum_to k ψ + ψ k
    last q = omega (arith, sum_same k φ ψ (λ n b. h n (omega arith) (λ p. omega arith)), rw q at e)

pub sum_zero : (k : ℕ) (φ : ℕ → ℕ) → ((i : ℕ) → i < k → φ i ≡ 0) → sum_to k φ ≡ 0
unfolding sum_to
sum_zero zero φ h = refl
sum_zero (suc k) φ h = omega (arith, sum_zero k φ (λ i l. h i (omega arith)), h k (omega arith))
