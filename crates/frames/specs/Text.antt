-- The printed text of `desk draw`, from a sheet's bytes: the floor's map, when each carrier arrives, and the floor at each beat with its
-- carriers. Carriers, cells and beats count from 0; carriers are printed from 1. The answers of the carriers are given by their number.
use Rattle.std.specs.Prelude.{ℕ, ◌+◌, cond, List, [], ◌∷◌, ◌++◌, eqb, leb, length}
use Rattle.reporting.specs.Words.{short_decimal, carrier_words}
use Rattle.floor.specs.declared.Floor.{Floor}
use Rattle.floor.specs.Checks.{start_of, among}
use Rattle.route.specs.Route.{cell_at, Answer, none, route}
use Rattle.route.specs.Arrival.{arrival_of}
use Rattle.sheet.specs.Text.{lines_of}
use Rattle.sheet.specs.Values.{floor_at, walls_at}
use Rattle.sheet.specs.Read.{sheet_verdict}
use Rattle.planner.specs.Plan.{plan_of}
use Rattle.planner.specs.Claims.{answer_at}
use Rattle.printing.specs.Print.{or_refusal}
use Rattle.maps.specs.Text.{one_of, marks_text, grid_of}
use Rattle.maps.specs.Map.{start_marks, dock_marks, map_of}

-- ` arrives at beat `, ` has no route and stays at its start` and `beat `, letter by letter, with a newline at a line's end.
unfoldable pub arrives_words : List ℕ
arrives_words = 32 ∷ 97 ∷ 114 ∷ 114 ∷ 105 ∷ 118 ∷ 101 ∷ 115 ∷ 32 ∷ 97 ∷ 116 ∷ 32 ∷ 98 ∷ 101 ∷ 97 ∷ 116 ∷ 32 ∷ []

unfoldable pub stays_words : List ℕ
stays_words =
    32 ∷ 104 ∷ 97 ∷ 115 ∷ 32 ∷ 110 ∷ 111 ∷ 32 ∷ 114 ∷ 111 ∷ 117 ∷ 116 ∷ 101 ∷ 32 ∷ 97 ∷ 110 ∷ 100 ∷ 32 ∷ 115 ∷ 116 ∷ 97 ∷ 121 ∷ 115
    ∷ 32 ∷ 97 ∷ 116 ∷ 32 ∷ 105 ∷ 116 ∷ 115 ∷ 32 ∷ 115 ∷ 116 ∷ 97 ∷ 114 ∷ 116 ∷ 10 ∷ []

unfoldable pub beat_words : List ℕ
beat_words = 98 ∷ 101 ∷ 97 ∷ 116 ∷ 32 ∷ []

-- What cell c shows where no carrier is: `#` a wall, the letter of the only carrier with a dock there, `+` a dock of several, `-` a start,
-- `.` nothing.
unfoldable pub still_mark : Floor → List ℕ → ℕ → ℕ
still_mark f ws c = cond (among ws f.walls c) 35 (one_of (dock_marks f c) (cond (eqb (length (start_marks f c)) 0) 46 45) 43)

-- What carrier i puts into cell c at beat t: its digit where its route is there; without a route its capital letter, at its start.
unfoldable pub present_of : Floor → (t c i : ℕ) → Answer → List ℕ
present_of f t c i none = cond (eqb (start_of f i) c) ((65 + i) ∷ []) []
present_of f t c i (route r) = cond (eqb (cell_at r t) c) ((49 + i) ∷ []) []

-- All carriers in cell c at beat t.
unfoldable pub present_in : Floor → (ℕ → Answer) → (t c : ℕ) → List ℕ
present_in f xs t c = lines_of (λ i. present_of f t c i (xs i)) f.carriers

-- The mark of cell c at beat t: the only carrier there, `*` for several, and where there is none what the cell is.
unfoldable pub frame_mark : Floor → List ℕ → (ℕ → Answer) → (t c : ℕ) → ℕ
frame_mark f ws xs t c = one_of (present_in f xs t c) (still_mark f ws c) 42

-- The floor at beat t, a line a row.
unfoldable pub frame_rows : Floor → List ℕ → (ℕ → Answer) → ℕ → List ℕ
frame_rows f ws xs t = grid_of (marks_text (frame_mark f ws xs t) 1024) f.width f.height

-- Beat t: a line with its number, and the floor.
unfoldable pub frame_of : Floor → List ℕ → (ℕ → Answer) → ℕ → List ℕ
frame_of f ws xs t = ((beat_words ++ short_decimal t) ++ (10 ∷ [])) ++ frame_rows f ws xs t

-- The end of the line of a carrier: its arrival, or that it stays at its start.
unfoldable pub arrival_words : Floor → Answer → List ℕ
arrival_words f none = stays_words
arrival_words f (route r) = (arrives_words ++ short_decimal (arrival_of r f.horizon)) ++ (10 ∷ [])

-- The line of carrier i.
unfoldable pub arrival_line : Floor → (ℕ → Answer) → ℕ → List ℕ
arrival_line f xs i = (carrier_words ++ ((49 + i) ∷ [])) ++ arrival_words f (xs i)

-- The head of the whole text: the map, an empty line, a line a carrier.
unfoldable pub draw_head : Floor → List ℕ → (ℕ → Answer) → List ℕ
draw_head f ws xs = (map_of f ws ++ (10 ∷ [])) ++ lines_of (arrival_line f xs) f.carriers

-- The whole text: the head, and for each beat an empty line and the floor.
unfoldable pub draw_of : Floor → List ℕ → (ℕ → Answer) → List ℕ
draw_of f ws xs = draw_head f ws xs ++ lines_of (λ t. (10 ∷ []) ++ frame_of f ws xs t) (f.horizon + 1)

-- Both for the plan of a floor; of a beat above the horizon nothing.
unfoldable pub planned : Floor → List ℕ → ℕ → Answer
planned f ws i = answer_at (plan_of f ws) i

unfoldable pub floor_text : Floor → List ℕ → List ℕ
floor_text f ws = draw_of f ws (planned f ws)

unfoldable pub floor_beat : ℕ → Floor → List ℕ → List ℕ
floor_beat t f ws = cond (leb t f.horizon) (frame_of f ws (planned f ws) t) []

-- What is printed for a sheet, whole and for one beat; of a refused sheet the line of its refusal.
unfoldable pub draw_text : List ℕ → List ℕ
draw_text text = or_refusal (sheet_verdict text) (floor_text (floor_at text) (walls_at text))

unfoldable pub beat_text : List ℕ → ℕ → List ℕ
beat_text text t = or_refusal (sheet_verdict text) (floor_beat t (floor_at text) (walls_at text))
