-- A field of the sheet (document 01, 'The sheet'): five columns, a decimal number right-justified after spaces, without leading zeros.
use Rattle.std.specs.Prelude.{ℕ, ◌+◌, ◌-◌, ◌*◌, ◌/◌, ◌%◌, Bool, true, false, cond, ◌&&◌, List, [], ◌∷◌, get_or, ltb, eqb}
use Rattle.floor.specs.Checks.{within}

-- The column of the digit that counts p's: a space where the number x has no such digit.
unfoldable pub column : ℕ → ℕ → ℕ
column p x = cond (ltb x p) 32 (48 + x / p % 10)

-- The five columns of a number up to 99999; zero is `0`.
unfoldable pub field_of : ℕ → List ℕ
field_of x = column 10000 x ∷ column 1000 x ∷ column 100 x ∷ column 10 x ∷ (48 + x % 10) ∷ []

-- The number that five columns write: a space counts as 0, as a digit's value is its byte minus 48.
unfoldable pub number : ℕ → ℕ → ℕ → ℕ → ℕ → ℕ
number x₁ x₂ x₃ x₄ x₅ = ((((x₁ - 48) * 10 + (x₂ - 48)) * 10 + (x₃ - 48)) * 10 + (x₄ - 48)) * 10 + (x₅ - 48)

-- The number at a column of the text.
unfoldable pub number_at : List ℕ → ℕ → ℕ
number_at text at =
    number (get_or text at 0) (get_or text (at + 1) 0) (get_or text (at + 2) 0) (get_or text (at + 3) 0) (get_or text (at + 4) 0)

-- The five bytes at a column are the field of their number.
unfoldable pub is_field : List ℕ → ℕ → Bool
is_field text at =
    eqb (get_or text at 0) (column 10000 (number_at text at))
    && (eqb (get_or text (at + 1) 0) (column 1000 (number_at text at))
    && (eqb (get_or text (at + 2) 0) (column 100 (number_at text at))
    && (eqb (get_or text (at + 3) 0) (column 10 (number_at text at))
    && eqb (get_or text (at + 4) 0) (48 + number_at text at % 10))))

-- Bytes that are all digits'.
unfoldable pub are_digits : List ℕ → Bool
are_digits [] = true
are_digits (x ∷ xs) = within 48 57 x && are_digits xs

-- Spaces, then digits, the first of them no 0 unless it is the last: what a field is, without its number.
unfoldable pub is_written : List ℕ → Bool
is_written [] = false
is_written (x ∷ []) = within 48 57 x
is_written (x ∷ y ∷ xs) = cond (eqb x 32) (is_written (y ∷ xs)) (within 49 57 x && are_digits (y ∷ xs))
