-- Laws of a number below 100 in digits.
use Prim.Native.Nat.{ℕ, ◌+◌, ◌/◌, ◌%◌, ◌≤◌, ◌<◌}
use native.Mathlib.Omega.{arith}
use mathlib.Core.Path.{◌≡◌}
use mathlib.Core.Bool.{Bool, true, false, cond}
use mathlib.Core.List.{[], ◌∷◌}
use lib.Dec.{ltb}
use lib.ListN.{length}
use borrow.Author.Tests.{lt-ltb, le-ltb}
use Rattle.reporting.specs.Words.{short_decimal}

pub short_one : (n : ℕ) → n < 10 → short_decimal n ≡ (48 + n) ∷ []
unfolding short_decimal
short_one n l = rw (lt-ltb n 10 l)

pub short_two : (n : ℕ) → 10 ≤ n → short_decimal n ≡ (48 + n / 10) ∷ (48 + n % 10) ∷ []
unfolding short_decimal
short_two n l = rw (le-ltb n 10 l)

pub short_within : (n : ℕ) → length (short_decimal n) ≤ 2
unfolding short_decimal
short_within n = go (ltb n 10)
  where
    go : (x : Bool) → length (cond x ((48 + n) ∷ []) ((48 + n / 10) ∷ (48 + n % 10) ∷ [])) ≤ 2
    go true = omega arith
    go false = omega arith
