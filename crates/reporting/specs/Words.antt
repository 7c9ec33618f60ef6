-- What several texts of the desk share: the word `carrier`, and a number below 100.
use Rattle.std.specs.Prelude.{ℕ, ◌+◌, ◌/◌, ◌%◌, cond, List, [], ◌∷◌, ltb}

-- `carrier `, letter by letter.
unfoldable pub carrier_words : List ℕ
carrier_words = 99 ∷ 97 ∷ 114 ∷ 114 ∷ 105 ∷ 101 ∷ 114 ∷ 32 ∷ []

-- A number below 100 in decimal digits.
unfoldable pub short_decimal : ℕ → List ℕ
short_decimal n = cond (ltb n 10) ((48 + n) ∷ []) ((48 + n / 10) ∷ (48 + n % 10) ∷ [])
