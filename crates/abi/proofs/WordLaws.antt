-- Laws of the answer word: what is packed is read again.
use Prim.Native.Nat.{ℕ, min, ◌+◌, ◌*◌, ◌%◌, ◌≤◌, ◌<◌}
use native.Mathlib.Omega.{arith}
use mathlib.Core.Path.{◌≡◌, refl}
use mathlib.Core.Logic.{⊎_elim}
use borrow.Author.Tests.{lt-ltb, le-ltb}
use Rattle.laws.proofs.Tests.{lt_or_le}
use Rattle.abi.specs.Word.{capped_at, packed}
use Rattle.abi.specs.Claims.{Reads}

-- A number that has room stays as it is; a larger one is the largest.
pub capped_same : (most n : ℕ) → n ≤ most → capped_at most n ≡ n
unfolding capped_at
capped_same most n l = rw (le-ltb most n l) refl

pub capped_most : (most n : ℕ) → most < n → capped_at most n ≡ most
unfolding capped_at
capped_most most n l = rw (lt-ltb most n l) refl

pub capped_within : (most n : ℕ) → capped_at most n ≤ most
capped_within most n =
    ⊎_elim
    (λ (l : most < n). rw (capped_most most n l) (omega arith))
    (λ (l : n ≤ most). rw (capped_same most n l) l)
    (lt_or_le most n)

-- It is the smaller of the two.
pub capped_min : (most n : ℕ) → capped_at most n ≡ min n most
capped_min most n =
    ⊎_elim
    (λ (l : most < n). rw (capped_most most n l) (omega arith))
    (λ (l : n ≤ most). rw (capped_same most n l) (omega arith))
    (lt_or_le most n)

-- A byte, a byte and a number, read off their sum.
sum_read : (a k n : ℕ) → a < 256 → k < 256 → Reads (a + 256 * k + 65536 * n) a k n
sum_read a k n la lc = record { low_byte = omega arith; second_byte = omega arith; from_bit_16 = omega arith }

module _ (a k n : ℕ) (la : a < 256) where
  pub packed_read : k < 256 → n ≤ 281474976710655 → Reads (packed a k n) a k n
  unfolding packed
  packed_read lc ln = rw (capped_same 255 k (omega arith), capped_same 281474976710655 n ln) (sum_read a k n la lc)

  pub packed_most : k < 256 → 281474976710655 < n → Reads (packed a k n) a k 281474976710655
  unfolding packed
  packed_most lc ln =
      rw (capped_same 255 k (omega arith), capped_most 281474976710655 n ln) (sum_read a k 281474976710655 la lc)

  -- Whatever is packed, the low byte is there and the word has 64 bits.
  pub packed_low : (packed a k n % 256 ≡ a) × (packed a k n < 18446744073709551616)
  unfolding packed
  packed_low =
      let second = capped_within 255 k in
      let rest = capped_within 281474976710655 n in
      (omega arith, omega arith)
