-- The generator over numbers of 32 bits: the product fits 64 bits, and a sum of remainders is the remainder of the sum.
use Rattle.std.proofs.Common.{◌≡◌, ℕ, ◌+◌, ◌*◌, ◌%◌, ◌<◌, ◌∙◌, mul-le-mul, arith}
use native.Mathlib.Nat.{mod-add-mod}
use Rattle.orders.specs.Generator.{next_number}

pub product_fits : (a b : ℕ) → a < 4294967296 → b < 4294967296 → a * b < 18446744073709551616
product_fits a b l h = omega (arith, mul-le-mul {n₁ = a} {m₁ = b} {n₂ = 4294967295} {m₂ = 4294967295} (omega arith) (omega arith))

pub next_is : (x p n : ℕ) → p ≡ (x * 1664525) % 4294967296 → n ≡ (p + 1013904223) % 4294967296 → n ≡ next_number x
unfolding next_number
next_is x p n e h = h ∙ rw e (mod-add-mod (x * 1664525) 4294967296 1013904223)
