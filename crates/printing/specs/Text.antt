-- The routes of a floor as text (document 01, 'The sheet'): line 1 has carriers and failing carrier; then a line a carrier, its number,
-- its arrival and its cells at beats 0 to H, or its number and ` none`. A refused sheet prints one line: 0, number, place.
use Rattle.std.specs.Prelude.{ℕ, ◌+◌, List, [], ◌∷◌, ◌++◌, take}
use Rattle.floor.specs.declared.Floor.{Floor}
use Rattle.route.specs.Route.{Answer, none, route}
use Rattle.route.specs.Arrival.{arrival_of}
use Rattle.fields.specs.Field.{field_of}
use Rattle.sheet.specs.Text.{line_of, lines_of}
use Rattle.planner.specs.Plan.{failing_of}
use Rattle.planner.specs.Claims.{answer_at}

-- Fields, one behind the other.
unfoldable pub fields_of : List ℕ → List ℕ
fields_of [] = []
fields_of (x ∷ xs) = field_of x ++ fields_of xs

-- ` none`: a space and four letters.
unfoldable pub none_word : List ℕ
none_word = 32 ∷ 110 ∷ 111 ∷ 110 ∷ 101 ∷ []

-- The line of a carrier that has none: its number, ` none` and one newline.
unfoldable pub none_line : ℕ → List ℕ
none_line number = (field_of number ++ none_word) ++ (10 ∷ [])

-- The line of a carrier, counted from 0, for its answer.
unfoldable pub answer_line : Floor → ℕ → Answer → List ℕ
answer_line f i none = none_line (i + 1)
answer_line f i (route r) = line_of ((i + 1) ∷ arrival_of r f.horizon ∷ take (f.horizon + 1) r)

-- Line 1.
unfoldable pub first_line : Floor → ℕ → List ℕ
first_line f failing = line_of (f.carriers ∷ failing ∷ [])

-- The printed routes of a floor.
unfoldable pub routes_text : Floor → List Answer → List ℕ
routes_text f xs = first_line f (failing_of xs) ++ lines_of (λ i. answer_line f i (answer_at xs i)) f.carriers

-- The line of a refused sheet.
unfoldable pub refusal_line : ℕ → ℕ → List ℕ
refusal_line number place = line_of (0 ∷ number ∷ place ∷ [])
