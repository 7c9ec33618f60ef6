-- The potential of a state: with n carriers, a due carrier i weighs 2^(n − i) − 1, a message under way to i weighs 2^(n − i).
use Prim.Native.Nat.{ℕ, zero, suc, ◌+◌, ◌-◌, ◌*◌, ◌^◌, ◌≤◌, ◌<◌}
use native.Mathlib.Omega.{arith}
use native.Mathlib.Nat.{two-pow-succ, zero-mul}
use mathlib.Core.Bool.{Bool, true, false}
use mathlib.Core.Path.{◌≡◌, refl}
use lib.ListN.{length}
use lib.Pow.{pow_pos}
use Rattle.reference.specs.State.{State, fresh}
use Rattle.reference.proofs.Sums.{sum_to, sum_zero}

-- The weight of a message to carrier i of n.
unfoldable pub unit : ℕ → ℕ → ℕ
unit n i = 2 ^ (n - i)

pub unit_double : (n i : ℕ) → i < n → unit n i ≡ unit n (suc i) + unit n (suc i)
unfolding unit
unit_double n i l = let more : n - i ≡ suc (n - suc i) = omega arith in rw more (two-pow-succ (n - suc i))

unit_first : (n : ℕ) → unit n 0 ≡ 2 ^ n
unfolding unit
unit_first n = let all : n - 0 ≡ n = omega arith in rw all refl

pub unit_last : (n : ℕ) → unit n n ≡ 1
unfolding unit
unit_last n = let none : n - n ≡ 0 = omega arith in rw none refl

pub unit_positive : (n i : ℕ) → 1 ≤ unit n i
unfolding unit
unit_positive n i = pow_pos (n - i)

-- The weight of being due.
unfoldable pub due_weight : Bool → ℕ → ℕ
due_weight true u = u - 1
due_weight false u = 0

-- The messages under way to carrier i.
unfoldable pub under_way : State → ℕ → ℕ
under_way s i = sum_to i (λ j. length (s.chan i j))

unfoldable pub weight_at : ℕ → State → ℕ → ℕ
weight_at n s i = due_weight (s.due i) (unit n i) + under_way s i * unit n i

unfoldable pub potential : ℕ → State → ℕ
potential n s = sum_to n (weight_at n s)

fresh_weight : (n i : ℕ) → weight_at n fresh i ≡ unit n i - 1
unfolding weight_at under_way fresh due_weight
fresh_weight n i = rw (sum_zero i (λ j. 0) (λ j l. refl), zero-mul) (omega arith)

fresh_sum : (n k : ℕ) → k ≤ n → sum_to k (weight_at n fresh) + k + 2 * unit n k ≡ 2 ^ suc n
unfolding sum_to
fresh_sum n zero l = omega (arith, unit_first n, two-pow-succ n)
fresh_sum n (suc k) l =
    omega (arith, fresh_sum n k (omega arith), fresh_weight n k, unit_double n k l, unit_positive n k)

-- The fresh state weighs 2^(n + 1) − n − 2.
pub fresh_potential : (n : ℕ) → potential n fresh + n + 2 ≡ 2 ^ suc n
unfolding potential
fresh_potential n = omega (arith, fresh_sum n n (omega arith), unit_last n)
