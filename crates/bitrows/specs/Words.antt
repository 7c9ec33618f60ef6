-- Binary digits of a word. Places count from 0, the lowest.
use Rattle.std.specs.Prelude.{ℕ, zero, suc, ◌/◌, ◌%◌, Bool, eqb}
use Rattle.std.specs.Int.Bits.{bit_and, bit_xor}

-- The digit of x at a place is 1.
unfoldable pub digit : ℕ → ℕ → Bool
digit x zero = eqb (x % 2) 1
digit x (suc place) = digit (x / 2) place

-- The digits of x that are not in a mask.
unfoldable pub without : ℕ → ℕ → ℕ
without x mask = bit_xor x (bit_and x mask)
