-- Laws of digits: of or, and, xor, shifts, a single digit and a run of ones, by recursion on the place.
use Prim.Native.Nat.{ℕ, zero, suc, ◌+◌, ◌*◌, ◌-◌, ◌/◌, ◌%◌, ◌^◌, ◌<◌, min, max}
use native.Mathlib.Omega.{arith}
use native.Mathlib.Nat.{pow-suc}
use native.Mathlib.Numerals.{add-one, one-add}
use mathlib.Core.Bool.{Bool, true, false, ◌&&◌, ◌||◌, not}
use mathlib.Core.Path.{◌≡◌, refl, sym, ap, ◌∙◌}
use borrow.Author.Tests.{ne_eqb, lt-ltb, le-ltb}
use lib.Bits.{bit_and, bit_or, bit_xor, differ, and_step, or_step, xor_step, and_mask}
use lib.Dec.{eqb, ltb, eqb-suc-suc, leb-suc-suc}
use lib.Pow.{pow_pos, field, mod-mod-pow, shr-shr}
use Rattle.bitrows.specs.Words.{digit, without}

half : (x bit : ℕ) → bit < 2 → (x * 2 + bit) / 2 ≡ x
half x bit h = omega arith

odd : (x bit : ℕ) → bit < 2 → (x * 2 + bit) % 2 ≡ bit
odd x bit h = omega arith

-- A law of two digits, from its four cases.
two_digits : (P : ℕ → ℕ → Type 0) → P 0 0 → P 0 1 → P 1 0 → P 1 1 → (x y : ℕ) → x < 2 → y < 2 → P x y
two_digits P a b c d zero zero h k = a
two_digits P a b c d zero (suc zero) h k = b
two_digits P a b c d zero (suc (suc y)) h k = absurd (omega arith)
two_digits P a b c d (suc zero) zero h k = c
two_digits P a b c d (suc zero) (suc zero) h k = d
two_digits P a b c d (suc zero) (suc (suc y)) h k = absurd (omega arith)
two_digits P a b c d (suc (suc x)) y h k = absurd (omega arith)

-- An operation on words that is φ on the digits of each place, which is ψ on Bools.
module _ (op φ : ℕ → ℕ → ℕ) (ψ : Bool → Bool → Bool)
    (step : (a b : ℕ) → op a b ≡ op (a / 2) (b / 2) * 2 + φ (a % 2) (b % 2))
    (small : (x y : ℕ) → x < 2 → y < 2 → φ x y < 2)
    (same : (x y : ℕ) → x < 2 → y < 2 → eqb (φ x y) 1 ≡ ψ (eqb x 1) (eqb y 1)) where
  digit_op : (column a b : ℕ) → digit (op a b) column ≡ ψ (digit a column) (digit b column)
  unfolding digit
  digit_op zero a b =
      ap (λ (n : ℕ). eqb n 1) (ap (λ (n : ℕ). n % 2) (step a b) ∙ odd _ _ (small _ _ (omega arith) (omega arith)))
      ∙ same (a % 2) (b % 2) (omega arith) (omega arith)
  digit_op (suc column) a b =
      ap (λ (n : ℕ). digit n column) (ap (λ (n : ℕ). n / 2) (step a b) ∙ half _ _ (small _ _ (omega arith) (omega arith)))
      ∙ digit_op column (a / 2) (b / 2)

xorb : Bool → Bool → Bool
xorb true x = not x
xorb false x = x

pub digit_or : (column a b : ℕ) → digit (bit_or a b) column ≡ (digit a column || digit b column)
digit_or =
    digit_op bit_or max (λ x y. x || y) or_step (two_digits (λ x y. max x y < 2) (omega arith) (omega arith) (omega arith) (omega arith))
    (two_digits (λ x y. eqb (max x y) 1 ≡ (eqb x 1 || eqb y 1)) refl refl refl refl)

pub digit_and : (column a b : ℕ) → digit (bit_and a b) column ≡ (digit a column && digit b column)
digit_and =
    digit_op bit_and min (λ x y. x && y) and_step (two_digits (λ x y. min x y < 2) (omega arith) (omega arith) (omega arith) (omega arith))
    (two_digits (λ x y. eqb (min x y) 1 ≡ (eqb x 1 && eqb y 1)) refl refl refl refl)

digit_xor : (column a b : ℕ) → digit (bit_xor a b) column ≡ xorb (digit a column) (digit b column)
unfolding xorb
digit_xor =
    digit_op bit_xor differ xorb xor_step
    (two_digits (λ x y. differ x y < 2) (omega arith) (omega arith) (omega arith) (omega arith))
    (two_digits (λ x y. eqb (differ x y) 1 ≡ xorb (eqb x 1) (eqb y 1)) refl refl refl refl)

xor_and : (x y : Bool) → xorb x (x && y) ≡ (x && not y)
unfolding xorb
xor_and true y = refl
xor_and false y = refl

pub digit_without : (column x mask : ℕ) → digit (without x mask) column ≡ (digit x column && not (digit mask column))
unfolding without
digit_without column x mask = digit_xor column x (bit_and x mask) ∙ rw digit_and (xor_and (digit x column) (digit mask column))

pub digit_zero : (column : ℕ) → digit 0 column ≡ false
unfolding digit
digit_zero zero = refl
digit_zero (suc column) = digit_zero column

-- The word with one digit.
pub digit_bit : (j column : ℕ) → digit (2 ^ j) column ≡ eqb column j
unfolding digit
digit_bit zero zero = refl
digit_bit zero (suc column) = digit_zero column ∙ sym (ne_eqb (suc column) 0 (λ e. omega arith))
digit_bit (suc j) zero = rw (pow-suc 2 j) (ap (λ (n : ℕ). eqb n 1) (even (2 ^ j)) ∙ sym (ne_eqb 0 (suc j) (λ e. omega arith)))
  where
    even : (n : ℕ) → n * 2 % 2 ≡ 0
    even n = omega arith
digit_bit (suc j) (suc column) =
    rw (pow-suc 2 j) (ap (λ (n : ℕ). digit n column) (back (2 ^ j)) ∙ digit_bit j column ∙ sym (eqb-suc-suc column j))
  where
    back : (n : ℕ) → n * 2 / 2 ≡ n
    back n = omega arith

-- The digits below n are those of the remainder by 2 ^ n.
pub digit_mod : (n column x : ℕ) → column < n → digit (x % 2 ^ n) column ≡ digit x column
unfolding digit
digit_mod zero column x h = absurd (omega arith)
digit_mod (suc n) zero x h = ap (λ (y : ℕ). eqb y 1) (rw add-one at (mod-mod-pow x n 1))
digit_mod (suc n) (suc column) x h = ap (λ (y : ℕ). digit y column) (rw add-one at (field x n 1)) ∙ digit_mod n column (x / 2) (omega arith)

-- A word moved up by one place.
pub digit_double_first : (x : ℕ) → digit (x * 2 % 2 ^ 32) 0 ≡ false
unfolding digit
digit_double_first x = ap (λ (n : ℕ). eqb n 1) even
  where
    even : x * 2 % 2 ^ 32 % 2 ≡ 0
    even = omega arith

pub digit_double : (x column : ℕ) → suc column < 32 → digit (x * 2 % 2 ^ 32) (suc column) ≡ digit x column
unfolding digit
digit_double x column h = digit_mod 32 (suc column) (x * 2) h ∙ ap (λ (n : ℕ). digit n column) back
  where
    back : x * 2 / 2 ≡ x
    back = omega arith

-- The test of a digit by a shift and a mask.
pub digit_test : (x column : ℕ) → eqb (bit_and (x / 2 ^ column) 1) 1 ≡ digit x column
unfolding digit
digit_test x zero = rw (and_mask (x / 1) 1) (ap (λ (n : ℕ). eqb (n % 2) 1) one)
  where
    one : x / 1 ≡ x
    one = omega arith
digit_test x (suc column) = ap (λ (n : ℕ). eqb (bit_and n 1) 1) (rw one-add at (sym (shr-shr x 1 column))) ∙ digit_test (x / 2) column

-- A run of n ones.
pub digit_ones : (n column : ℕ) → digit (2 ^ n - 1) column ≡ ltb column n
unfolding digit
digit_ones zero column = digit_zero column ∙ sym (le-ltb column 0 (omega arith))
digit_ones (suc n) zero = rw (pow-suc 2 n) (ap (λ (x : ℕ). eqb x 1) (one (2 ^ n) (pow_pos n)) ∙ sym (lt-ltb 0 (suc n) (omega arith)))
  where
    one : (x : ℕ) → 0 < x → (x * 2 - 1) % 2 ≡ 1
    one x h = omega arith
digit_ones (suc n) (suc column) =
    rw (pow-suc 2 n) (ap (λ (x : ℕ). digit x column) (back (2 ^ n) (pow_pos n)) ∙ digit_ones n column ∙ sym (leb-suc-suc (suc column) n))
  where
    back : (x : ℕ) → 0 < x → (x * 2 - 1) / 2 ≡ x - 1
    back x h = omega arith
