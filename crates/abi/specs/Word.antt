-- The answer word of every exported function.
use Rattle.std.specs.Prelude.{ℕ, ◌+◌, ◌*◌, cond, ltb}
use Rattle.laws.specs.Verdict.{Outcome, value, refusal}

-- What a word tells of a call that is done: its case, and a number.
pub record Done : Type 0 where
  pub case : ℕ
  pub number : ℕ

abbrev pub done : ℕ → ℕ → Done
done c n = record { case = c; number = n }

-- An outcome with its value taken to another; a refusal stays what it is.
unfoldable pub map_outcome : {A B : Type 0} → (A → B) → Outcome A → Outcome B
map_outcome φ (value x) = value (φ x)
map_outcome φ (refusal k p) = refusal k p

-- A number as it is told where there is room up to a largest one: a larger number is told as the largest.
unfoldable pub capped_at : ℕ → ℕ → ℕ
capped_at most n = cond (ltb most n) most n

-- Bits 0 to 7, bits 8 to 15 (up to 255) and bits 16 to 63 (up to 2^48 − 1) of a word.
unfoldable pub packed : ℕ → ℕ → ℕ → ℕ
packed low second rest = low + 256 * capped_at 255 second + 65536 * capped_at 281474976710655 rest

-- The word: the low byte 0 done or 1 refused, the next the case or the refusal, from bit 16 on the number or the place.
unfoldable pub word_of : Outcome Done → ℕ
word_of (value x) = packed 0 x.case x.number
word_of (refusal k p) = packed 1 k p

-- An answer that is a number: case 0 with that number.
unfoldable pub of_number : Outcome ℕ → Outcome Done
of_number x = map_outcome (done 0) x
