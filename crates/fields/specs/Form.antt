-- Refusal 1: what must stand at a column of a text, a field, a newline, a line of fields, or nothing more.
use Rattle.std.specs.Prelude.{ℕ, zero, suc, ◌+◌, ◌*◌, List, length, get_or, leb, ltb, eqb}
use Rattle.laws.specs.Verdict.{Verdict, ◌then◌, demand, in_turn}
use Rattle.floor.specs.Checks.{within}
use Rattle.fields.specs.Field.{number_at, is_field}

-- A field: five bytes are there (a field cut short by the end gets the sheet's length), and they are a field.
unfoldable pub field_form : List ℕ → ℕ → Verdict
field_form text at = demand (leb (at + 5) (length text)) 1 (length text) then demand (is_field text at) 1 at

-- A newline is there.
unfoldable pub newline_form : List ℕ → ℕ → Verdict
newline_form text at = demand (ltb at (length text)) 1 (length text) then demand (eqb (get_or text at 0) 10) 1 at

-- A line of k fields from a column on.
unfoldable pub line_form : List ℕ → ℕ → ℕ → Verdict
line_form text at k = in_turn (λ i. field_form text (at + 5 * i)) k then newline_form text (at + 5 * k)

-- A field that counts 1 to 4; another number makes the field bad.
unfoldable pub count_form : List ℕ → ℕ → Verdict
count_form text at = field_form text at then demand (within 1 4 (number_at text at)) 1 at

-- A counted line: two fields, a count, and as many pairs of fields.
unfoldable pub counted_form : List ℕ → ℕ → Verdict
counted_form text at =
    field_form text at
    then field_form text (at + 5)
    then count_form text (at + 10)
    then line_form text (at + 15) (2 * number_at text (at + 10))

-- The length of a counted line, by its count: 16 bytes, 10 a pair.
unfoldable pub counted_length : ℕ → ℕ
counted_length c = 16 + 10 * c

-- The column past the counted line that begins at a column, and past a line of two fields.
unfoldable pub past_counted : List ℕ → ℕ → ℕ
past_counted text at = at + counted_length (number_at text (at + 10))

unfoldable pub past_pair : ℕ → ℕ
past_pair at = at + 11

-- The column past the first i of the lines from a column on, each ending where `past` says.
unfoldable pub column_past : (ℕ → ℕ) → ℕ → ℕ → ℕ
column_past past at zero = at
column_past past at (suc i) = past (column_past past at i)

-- The first k of the lines from a column on, each in the form given.
unfoldable pub lines_form : (ℕ → Verdict) → (ℕ → ℕ) → ℕ → ℕ → Verdict
lines_form form past at k = in_turn (λ i. form (column_past past at i)) k

-- Nothing follows: the first byte past the end is extra.
unfoldable pub end_form : List ℕ → ℕ → Verdict
end_form text at = demand (leb (length text) at) 1 at
