-- The printed text of `desk meeting I J` (document 02, slips 7 and 9), from a sheet's bytes and two carriers, counted from 1: where the
-- best routes of the two, each against nobody, meet, and the floor at that beat.
use Rattle.std.specs.Prelude.{ℕ, ◌-◌, ◌≤◌, List, [], ◌∷◌, ◌++◌, replicate, set}
use Rattle.laws.specs.Verdict.{Verdict, ◌then◌, demand}
use Rattle.reporting.specs.Words.{carrier_words, short_decimal}
use Rattle.floor.specs.declared.Floor.{Floor}
use Rattle.floor.specs.Checks.{within}
use Rattle.route.specs.Route.{cell_at, Answer, none, route}
use Rattle.route.specs.FirstConflict.{same_cell, change_of_places, following, ConflictAnswer, free, dated}
use Rattle.route.specs.ConflictTest.{first_conflict}
use Rattle.route.specs.Search.{best}
use Rattle.search.specs.Task.{task_of}
use Rattle.sheet.specs.Values.{floor_at, walls_at}
use Rattle.sheet.specs.Read.{sheet_verdict}
use Rattle.printing.specs.Print.{or_refusal}
use Rattle.drawing.specs.Drawing.{drawn_floor}

-- The best answer of carrier i against nobody.
unfoldable pub alone_of : Floor → List ℕ → ℕ → Answer
alone_of f ws i = best (task_of f ws i) []

-- Refusal 7, 0: a carrier that is not there.
unfoldable pub pair_verdict : Floor → (i j : ℕ) → Verdict
pair_verdict f i j = demand (within 1 f.carriers i) 7 0 then demand (within 1 f.carriers j) 7 0

-- Words, a number and words behind it.
unfoldable pub number_line : List ℕ → ℕ → List ℕ → List ℕ
number_line words n end = (words ++ short_decimal n) ++ end

-- `free`, `same cell at beat `, `change of places after beat `, `following after beat ` and ` has no route`, letter by letter,
-- with a newline at a line's end.
unfoldable pub free_line : List ℕ
free_line = 102 ∷ 114 ∷ 101 ∷ 101 ∷ 10 ∷ []

unfoldable pub same_cell_words : List ℕ
same_cell_words = 115 ∷ 97 ∷ 109 ∷ 101 ∷ 32 ∷ 99 ∷ 101 ∷ 108 ∷ 108 ∷ 32 ∷ 97 ∷ 116 ∷ 32 ∷ 98 ∷ 101 ∷ 97 ∷ 116 ∷ 32 ∷ []

unfoldable pub change_words : List ℕ
change_words =
    99 ∷ 104 ∷ 97 ∷ 110 ∷ 103 ∷ 101 ∷ 32 ∷ 111 ∷ 102 ∷ 32 ∷ 112 ∷ 108 ∷ 97 ∷ 99 ∷ 101 ∷ 115 ∷ 32 ∷ 97 ∷ 102 ∷ 116 ∷ 101 ∷ 114 ∷ 32 ∷ 98
    ∷ 101 ∷ 97 ∷ 116 ∷ 32 ∷ []

unfoldable pub following_words : List ℕ
following_words =
    102 ∷ 111 ∷ 108 ∷ 108 ∷ 111 ∷ 119 ∷ 105 ∷ 110 ∷ 103 ∷ 32 ∷ 97 ∷ 102 ∷ 116 ∷ 101 ∷ 114 ∷ 32 ∷ 98 ∷ 101 ∷ 97 ∷ 116 ∷ 32 ∷ []

unfoldable pub no_route_words : List ℕ
no_route_words = 32 ∷ 104 ∷ 97 ∷ 115 ∷ 32 ∷ 110 ∷ 111 ∷ 32 ∷ 114 ∷ 111 ∷ 117 ∷ 116 ∷ 101 ∷ 10 ∷ []

-- The line of the first conflict, and that of a carrier without a route.
unfoldable pub conflict_line : ConflictAnswer → List ℕ
conflict_line free = free_line
conflict_line (dated t same_cell) = number_line same_cell_words t (10 ∷ [])
conflict_line (dated t change_of_places) = number_line change_words t (10 ∷ [])
conflict_line (dated t following) = number_line following_words t (10 ∷ [])

unfoldable pub no_route_line : ℕ → List ℕ
no_route_line i = number_line carrier_words i no_route_words

-- A conflict's beat is at most 63; only contracts cite this.
unfoldable pub Early : ConflictAnswer → Type 0
Early free = Unit {0}
Early (dated t kind) = t ≤ 63

-- The cells of eight carriers, of whom i is in cell c, j in cell d, and the others are nowhere.
unfoldable pub two_places : (i c j d : ℕ) → List ℕ
two_places i c j d = set (set (replicate 8 65535) (i - 1) c) (j - 1) d

-- The floor with carriers i and j at the beat of the first conflict of their routes r and q; nothing where these are free.
unfoldable pub conflict_drawing : Floor → List ℕ → (i j : ℕ) → List ℕ → List ℕ → ConflictAnswer → List ℕ
conflict_drawing f ws i j r q free = []
conflict_drawing f ws i j r q (dated t kind) = drawn_floor f ws (two_places i (cell_at r t) j (cell_at q t))

-- The text for the answers of carriers i and j.
unfoldable pub met_text : Floor → List ℕ → (i j : ℕ) → Answer → Answer → List ℕ
met_text f ws i j none y = no_route_line i
met_text f ws i j (route r) none = no_route_line j
met_text f ws i j (route r) (route q) =
    conflict_line (first_conflict f.horizon r q) ++ conflict_drawing f ws i j r q (first_conflict f.horizon r q)

-- The text for carriers i and j of a floor: where they meet alone, or the line of the refusal of one that is not there.
unfoldable pub pair_text : Floor → List ℕ → (i j : ℕ) → List ℕ
pair_text f ws i j = or_refusal (pair_verdict f i j) (met_text f ws i j (alone_of f ws i) (alone_of f ws j))

-- What is printed for a sheet and two carriers; of a refused sheet the line of its refusal.
unfoldable pub meeting_text : List ℕ → (i j : ℕ) → List ℕ
meeting_text text i j = or_refusal (sheet_verdict text) (pair_text (floor_at text) (walls_at text) i j)
