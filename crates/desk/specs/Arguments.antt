-- Arguments as bytes: a number of one or more decimal digits.
use Rattle.std.specs.Prelude.{ℕ, zero, suc, ◌+◌, ◌-◌, ◌*◌, ◌<◌, min, Bool, true, ◌&&◌, List, ◌≡◌, Option, None, Some, leb, length, get_or}
use Rattle.laws.specs.Verdict.{each}

-- A byte is a decimal digit.
unfoldable pub is_digit : ℕ → Bool
is_digit b = leb 48 b && leb b 57

-- Every byte of a text is a decimal digit.
unfoldable pub all_digits : List ℕ → Bool
all_digits text = each (length text) (λ k. is_digit (get_or text k 0))

-- A text is a decimal number.
pub record IsDecimal (text : List ℕ) : Type 0 where
  pub digits : all_digits text ≡ true
  pub some : 0 < length text

-- The number that the first k bytes of a text write.
unfoldable pub value_in : List ℕ → ℕ → ℕ
value_in text zero = 0
value_in text (suc k) = 10 * value_in text k + (get_or text k 0 - 48)

-- What is read of a text: its number, one above 2^32 as that; or that it is no number.
unfoldable pub ReadsDecimal : List ℕ → Option ℕ → Type 0
ReadsDecimal text (Some n) = IsDecimal text × (n ≡ min 4294967296 (value_in text (length text)))
ReadsDecimal text None = IsDecimal text → ⊥
