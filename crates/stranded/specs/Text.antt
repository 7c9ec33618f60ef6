-- The printed text of `desk blockers` (document 02, slip 8), from a sheet's bytes: who shuts each stranded carrier in, and the floor with
-- the stranded carriers at their starts. Carriers count from 0, as printed from 1.
use Rattle.std.specs.Prelude.{ℕ, zero, suc, ◌+◌, cond, List, [], ◌∷◌, ◌++◌, eqb, length, replicate, set}
use Rattle.reporting.specs.Words.{carrier_words}
use Rattle.floor.specs.declared.Floor.{Floor}
use Rattle.floor.specs.Checks.{start_of}
use Rattle.bitrows.specs.Words.{digit}
use Rattle.sheet.specs.Text.{lines_of}
use Rattle.sheet.specs.Values.{floor_at, walls_at}
use Rattle.sheet.specs.Read.{sheet_verdict}
use Rattle.planner.specs.Plan.{plan_of}
use Rattle.planner.specs.Claims.{answer_at}
use Rattle.printing.specs.Print.{or_refusal}
use Rattle.drawing.specs.Drawing.{drawn_floor}
use Rattle.blockers.specs.Blockers.{if_none, blockers_of}

-- ` is shut in by`, ` walls or the horizon` and `no carrier is stranded`, letter by letter, with a newline at a line's end.
unfoldable pub shut_words : List ℕ
shut_words = 32 ∷ 105 ∷ 115 ∷ 32 ∷ 115 ∷ 104 ∷ 117 ∷ 116 ∷ 32 ∷ 105 ∷ 110 ∷ 32 ∷ 98 ∷ 121 ∷ []

unfoldable pub cause_words : List ℕ
cause_words =
    32 ∷ 119 ∷ 97 ∷ 108 ∷ 108 ∷ 115 ∷ 32 ∷ 111 ∷ 114 ∷ 32 ∷ 116 ∷ 104 ∷ 101 ∷ 32 ∷ 104 ∷ 111 ∷ 114 ∷ 105 ∷ 122 ∷ 111 ∷ 110 ∷ 10 ∷ []

unfoldable pub nobody_line : List ℕ
nobody_line =
    110 ∷ 111 ∷ 32 ∷ 99 ∷ 97 ∷ 114 ∷ 114 ∷ 105 ∷ 101 ∷ 114 ∷ 32 ∷ 105 ∷ 115 ∷ 32 ∷ 115 ∷ 116 ∷ 114 ∷ 97 ∷ 110 ∷ 100 ∷ 101 ∷ 100 ∷ 10 ∷ []

-- A carrier of a set: a space and its number; nothing for one that is not in it.
unfoldable pub name_of : ℕ → ℕ → List ℕ
name_of set j = cond (digit set j) (32 ∷ (49 + j) ∷ []) []

-- The carriers of a set by rising number, or the cause where there is none.
unfoldable pub by_whom : ℕ → List ℕ
by_whom set = cond (eqb set 0) cause_words (lines_of (name_of set) 8 ++ (10 ∷ []))

-- The line of carrier i, which a set shuts in.
unfoldable pub shut_line : ℕ → ℕ → List ℕ
shut_line i set = ((carrier_words ++ ((49 + i) ∷ [])) ++ shut_words) ++ by_whom set

-- The line of carrier i of a floor; nothing if it has a route.
unfoldable pub carrier_text : Floor → List ℕ → ℕ → List ℕ
carrier_text f ws i = if_none (answer_at (plan_of f ws) i) (shut_line i (blockers_of f ws i)) []

-- These lines, or that nobody is stranded where there are none.
unfoldable pub or_nobody : List ℕ → List ℕ
or_nobody lines = cond (eqb (length lines) 0) nobody_line lines

-- The cells of eight carriers, the stranded ones of the first k in their starts and all others nowhere.
unfoldable pub stranded_places : Floor → List ℕ → ℕ → List ℕ
stranded_places f ws zero = replicate 8 65535
stranded_places f ws (suc k) = set (stranded_places f ws k) k (if_none (answer_at (plan_of f ws) k) (start_of f k) 65535)

-- The text for a floor: the lines, then the floor with the stranded carriers.
unfoldable pub stranded_text : Floor → List ℕ → List ℕ
stranded_text f ws = or_nobody (lines_of (carrier_text f ws) f.carriers) ++ drawn_floor f ws (stranded_places f ws f.carriers)

-- What is printed for a sheet; of a refused sheet the line of its refusal.
unfoldable pub blockers_text : List ℕ → List ℕ
blockers_text text = or_refusal (sheet_verdict text) (stranded_text (floor_at text) (walls_at text))
