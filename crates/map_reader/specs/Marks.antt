-- What the cells of a map are: each has a mark, a byte; a capital letter stands for what a table says. Things are counted `1` to `8`, then
-- `a` to `h`, from 0; the table has 17 places a letter, of which the first 16 are 1 for the things that the letter stands for.
use Rattle.std.specs.Prelude.{ℕ, ◌+◌, ◌*◌, ◌-◌, Bool, true, false, cond, Option, Some, None, List, [], ◌∷◌, eqb, ltb, leb, get_or}
use Rattle.sheet.specs.Text.{lines_of}

-- The thing of a mark, 16 for a byte that is none of the sixteen.
unfoldable pub thing_of : ℕ → ℕ
thing_of b = cond (ltb b 49) 16 (cond (leb b 56) (b - 49) (cond (ltb b 97) 16 (cond (leb b 104) (b - 89) 16)))

-- The place of a capital letter among `A` to `Z`, 26 for a byte that is none.
unfoldable pub place_of : ℕ → ℕ
place_of b = cond (ltb b 65) 26 (cond (ltb 90 b) 26 (b - 65))

-- The place that is found, or a number that stands for none.
abbrev pub or_none : ℕ → Option ℕ → ℕ
or_none none (Some n) = n
or_none none None = none

-- Cell c is a thing: its mark is that of the thing, or a capital letter that stands for it.
unfoldable pub is_thing : (marks table : List ℕ) → (thing c : ℕ) → Bool
is_thing marks table thing c =
    cond (eqb (thing_of (get_or marks c 0)) thing) true
    (cond (eqb (place_of (get_or marks c 0)) 26) false (eqb (get_or table (17 * place_of (get_or marks c 0) + thing) 0) 1))

-- Cell c is a wall: its mark is `#`.
unfoldable pub is_wall : List ℕ → ℕ → Bool
is_wall marks c = eqb (get_or marks c 0) 35

-- The cells below n for which a test holds, by rising number.
unfoldable pub cells_where : (ℕ → Bool) → ℕ → List ℕ
cells_where φ n = lines_of (λ c. cond (φ c) (c ∷ []) []) n
