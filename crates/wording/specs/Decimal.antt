-- Numbers below 100,000 in decimal digits.
use Rattle.std.specs.Prelude.{ℕ, ◌+◌, ◌/◌, ◌%◌, cond, List, [], ◌∷◌, ltb, drop}

-- The last five digits of a number, with zeros in front.
unfoldable pub five_digits : ℕ → List ℕ
five_digits n =
    (48 + n / 10000 % 10) ∷ (48 + n / 1000 % 10) ∷ (48 + n / 100 % 10) ∷ (48 + n / 10 % 10) ∷ (48 + n % 10) ∷ []

-- The place among them of the first that is written: zeros in front are not, and 0 is `0`.
unfoldable pub first_digit : ℕ → ℕ
first_digit n = cond (ltb n 10) 4 (cond (ltb n 100) 3 (cond (ltb n 1000) 2 (cond (ltb n 10000) 1 0)))

-- A number below 100,000 in decimal digits.
unfoldable pub decimal : ℕ → List ℕ
decimal n = drop (first_digit n) (five_digits n)
