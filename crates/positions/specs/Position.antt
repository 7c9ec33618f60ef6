-- The position of a refusal in a sheet's text: a line and a column, both counted from 1. Bytes count from 0.
use Rattle.std.specs.Prelude.{ℕ, zero, suc, ◌+◌, ◌-◌, ◌*◌, cond, List, [], ◌∷◌, ◌++◌, eqb, get_or}
use Rattle.wording.specs.Decimal.{decimal}

-- The line in which byte p of a text stands: one more than there are newlines before it.
unfoldable pub line_at : List ℕ → ℕ → ℕ
line_at text zero = 1
line_at text (suc p) = cond (eqb (get_or text p 0) 10) (suc (line_at text p)) (line_at text p)

-- The column in which byte p of a text stands: 1 in front of a line, and one more behind each byte of it.
unfoldable pub column_at : List ℕ → ℕ → ℕ
column_at text zero = 1
column_at text (suc p) = cond (eqb (get_or text p 0) 10) 1 (suc (column_at text p))

-- The line of a refusal: of 1 that of its byte; of 2 line 1; of the others the item's, which stands behind line 1 and the items before it.
unfoldable pub line_of_refusal : List ℕ → (number place : ℕ) → ℕ
line_of_refusal text number place = cond (eqb number 1) (line_at text place) (cond (eqb number 2) 1 (place + 1))

-- The column of a refusal: of 1 that of its byte; of 2 the first of its field; of 4 and 6 the first of the item's line; of 3, 5 and 17 the
-- first of a field of the item's line.
unfoldable pub column_of_refusal : List ℕ → (number place field : ℕ) → ℕ
column_of_refusal text number place field =
    cond (eqb number 1) (column_at text place)
    (cond (eqb number 2) (5 * (place - 1) + 1) (cond (eqb number 4) 1 (cond (eqb number 6) 1 (5 * field + 1))))

-- `line `, `, column ` and `: `, letter by letter.
unfoldable pub line_word : List ℕ
line_word = 108 ∷ 105 ∷ 110 ∷ 101 ∷ 32 ∷ []

unfoldable pub column_word : List ℕ
column_word = 44 ∷ 32 ∷ 99 ∷ 111 ∷ 108 ∷ 117 ∷ 109 ∷ 110 ∷ 32 ∷ []

unfoldable pub colon : List ℕ
colon = 58 ∷ 32 ∷ []

-- The words of a position.
unfoldable pub position_text : (line column : ℕ) → List ℕ
position_text line column = (((line_word ++ decimal line) ++ column_word) ++ decimal column) ++ colon
