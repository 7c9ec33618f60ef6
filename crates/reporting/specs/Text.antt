-- The report of a trial as text (document 02, slip 1). A report in numbers has two an entry: the step's number and its answer.
use Rattle.std.specs.Prelude.{ℕ, ◌+◌, ◌*◌, ◌/◌, cond, List, [], ◌∷◌, ◌++◌, eqb, length, get_or}
use Rattle.fields.specs.Field.{field_of}
use Rattle.sheet.specs.Text.{line_of, lines_of}

-- `kept`, `sent` and `delivered`, letter by letter.
unfoldable pub kept_word : List ℕ
kept_word = 107 ∷ 101 ∷ 112 ∷ 116 ∷ []

unfoldable pub sent_word : List ℕ
sent_word = 115 ∷ 101 ∷ 110 ∷ 116 ∷ []

unfoldable pub delivered_word : List ℕ
delivered_word = 100 ∷ 101 ∷ 108 ∷ 105 ∷ 118 ∷ 101 ∷ 114 ∷ 101 ∷ 100 ∷ []

-- The word of an answer's number: 0 kept, 1 sent, 2 delivered.
unfoldable pub answer_word : ℕ → List ℕ
answer_word a = cond (eqb a 0) kept_word (cond (eqb a 1) sent_word delivered_word)

-- The line of a step: its place and its number as fields, one space, its answer's word, one newline.
unfoldable pub step_line : (place number answer : ℕ) → List ℕ
step_line place number answer = (((field_of place ++ field_of number) ++ (32 ∷ [])) ++ answer_word answer) ++ (10 ∷ [])

-- The line of entry k of a report, entries counted from 0 and places from 1.
unfoldable pub entry_line : List ℕ → ℕ → List ℕ
entry_line xs k = step_line (k + 1) (get_or xs (2 * k) 0) (get_or xs (2 * k + 1) 0)

-- The number of entries of a report.
unfoldable pub entry_count : List ℕ → ℕ
entry_count xs = length xs / 2

-- The report's text: carriers, order and steps taken in line 1, then a line a step.
unfoldable pub report_text : (carriers order : ℕ) → List ℕ → List ℕ
report_text carriers order xs = line_of (carriers ∷ order ∷ entry_count xs ∷ []) ++ lines_of (entry_line xs) (entry_count xs)

-- The most bytes of the report of a number of steps: 16, and 21 a step.
unfoldable pub report_length : ℕ → ℕ
report_length steps = 16 + 21 * steps
