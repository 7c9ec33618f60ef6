-- Printing a floor's routes, and the whole path from a sheet's bytes to the printed bytes.
use Rattle.std.specs.Prelude.{ℕ, ◌+◌, ◌*◌, cond, List, Option, Some, None, Result, leb, length}
use Rattle.laws.specs.Memory.{put}
use Rattle.floor.specs.declared.Floor.{Floor}
use Rattle.floor.specs.declared.Refusal.{Refusal}
use Rattle.floor.specs.Answers.{outcome_by}
use Rattle.laws.specs.Verdict.{Verdict, passed, refused, ◌then◌, Outcome, value, refusal, ◌gives◌, ◌then_answers◌, when_passed}
use Rattle.floor.specs.Checks.{long_enough}
use Rattle.sheet.specs.Values.{floor_at, walls_at}
use Rattle.sheet.specs.Read.{sheet_verdict}
use Rattle.planner.specs.Plan.{plan_of, plan_verdict}
use Rattle.records.specs.Records.{stored}
use Rattle.printing.specs.Text.{routes_text, refusal_line}

-- What the code's answer says: the number of bytes that were written, or the refusal.
abbrev pub printed_outcome : Result ℕ Refusal → Outcome ℕ
printed_outcome x = outcome_by (λ n. n) x

-- What it says where a refusal's line is printed: the number of bytes that were written, or that refusal.
abbrev pub printed_or : ℕ → ℕ → Option ℕ → Outcome ℕ
printed_or k p None = refusal k p
printed_or k p (Some n) = value n

-- The routes of a floor as text.
unfoldable pub print_of : Floor → List ℕ → List ℕ
print_of f ws = routes_text f (plan_of f ws)

-- The needed length of text memory: 11 bytes, and 331 a carrier (two fields, 64 cells, a newline).
unfoldable pub text_length : Floor → ℕ
text_length f = 11 + 331 * f.carriers

-- The refusals of printing: the plan's, then 9 if the text memory is too short.
unfoldable pub print_verdict : Floor → List ℕ → ℕ → ℕ → Verdict
print_verdict f ws lent bytes = plan_verdict f ws lent then long_enough (text_length f) bytes

-- What printing a floor's routes answers, where a number of numbers and a number of bytes are lent.
unfoldable pub print_outcome : Floor → List ℕ → ℕ → ℕ → Outcome ℕ
print_outcome f ws lent bytes = print_verdict f ws lent bytes gives length (print_of f ws)

-- The lent memory for answers, and the lent text memory, after printing; both as they were with a refusal.
unfoldable pub print_answers : Floor → List ℕ → ℕ → List ℕ → List ℕ
print_answers f ws bytes old = when_passed (print_verdict f ws (length old) bytes) (stored (plan_of f ws) old) old

unfoldable pub print_memory : Floor → List ℕ → ℕ → List ℕ → List ℕ
print_memory f ws lent old = when_passed (print_verdict f ws lent (length old)) (put old 0 (print_of f ws)) old

-- A text where a sheet is accepted; the line of its refusal where it is not.
unfoldable pub or_refusal : Verdict → List ℕ → List ℕ
or_refusal passed text = text
or_refusal (refused k p) text = refusal_line k p

-- From bytes to bytes: what is printed for a sheet.
unfoldable pub routes_of : List ℕ → List ℕ
routes_of text = or_refusal (sheet_verdict text) (print_of (floor_at text) (walls_at text))

-- The needed length of text memory for a sheet: its floor's, or the 16 bytes of a refusal's line.
unfoldable pub needed_for : List ℕ → ℕ
needed_for text = when_passed (sheet_verdict text) (text_length (floor_at text)) 16

-- With too little text memory a sheet gets the first refusal of the order: its own, and 9 if it has none.
unfoldable pub short_outcome : List ℕ → Outcome ℕ
short_outcome text = sheet_verdict text then_answers refusal 9 0

-- What printing the routes of a sheet answers, where a number of bytes is lent.
unfoldable pub routes_outcome : List ℕ → ℕ → Outcome ℕ
routes_outcome text bytes = cond (leb (needed_for text) bytes) (value (length (routes_of text))) (short_outcome text)

-- The lent text memory afterwards: what is printed in front, and the rest as it was.
unfoldable pub routes_memory : List ℕ → List ℕ → List ℕ
routes_memory text old = cond (leb (needed_for text) (length old)) (put old 0 (routes_of text)) old
