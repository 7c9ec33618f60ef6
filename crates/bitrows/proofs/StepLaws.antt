-- One step of a set into a mask, digit by digit.
use Prim.Native.Nat.{ℕ, zero, suc, ◌*◌, ◌/◌, ◌%◌, ◌^◌, ◌<◌}
use mathlib.Core.Bool.{Bool, true, false, ◌&&◌, ◌||◌}
use mathlib.Core.Path.{◌≡◌, refl}
use lib.Bits.{bit_or}
use Rattle.bitrows.specs.Words.{digit}
use Rattle.bitrows.specs.Rows.{successor_row}
use Rattle.bitrows.proofs.DigitLaws.{digit_or, digit_and, digit_double, digit_double_first}
use Rattle.laws.proofs.Tests.{and_snd}

-- The test one place before, false at the first.
unfoldable pub before : (ℕ → Bool) → ℕ → Bool
before φ zero = false
before φ (suc n) = φ n

digit_left : (x column : ℕ) → column < 32 → digit (x * 2 % 2 ^ 32) column ≡ before (λ j. digit x j) column
unfolding before
digit_left x zero h = digit_double_first x
digit_left x (suc column) h = digit_double x column h

digit_right : (x column : ℕ) → digit (x / 2) column ≡ digit x (suc column)
unfolding digit
digit_right x column = refl

-- What a step brings to a column from the row above, the row itself and the row below.
unfoldable pub brought : ℕ → ℕ → ℕ → ℕ → Bool
brought over here under column =
    digit here column || before (λ j. digit here j) column || digit here (suc column) || digit over column || digit under column

pub narrow_digit : (over here under mask column : ℕ) → column < 32 →
    digit (successor_row over here under mask) column ≡ (brought over here under column && digit mask column)
unfolding successor_row brought
narrow_digit over here under mask column h = simp (digit_and, digit_or, digit_left here column h, digit_right here column)

-- What is left of a mask is in it.
pub narrow_masked : (over here under mask column : ℕ) → digit (successor_row over here under mask) column ≡ true → digit mask column ≡ true
unfolding successor_row
narrow_masked over here under mask column e =
    and_snd (digit (bit_or (bit_or (bit_or (bit_or here (here * 2 % 2 ^ 32)) (here / 2)) over) under) column) (digit mask column)
    (rw digit_and at e)
