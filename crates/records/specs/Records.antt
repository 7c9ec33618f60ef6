-- An answer, a view and a message lie in memory as one record of 65 numbers: a tag (0 not heard, 1 none, 2 a route) and 64 cells, 0 where
-- there is no route. Rows of records go carrier by carrier, record j − 1 being carrier j's (records count from 0).
use Rattle.std.specs.Prelude.{ℕ, zero, suc, ◌+◌, ◌*◌, ◌-◌, ◌≤◌, ◌<◌, true, false, List, [], ◌∷◌, ◌++◌, ◌≡◌, eqb, get_or, replicate}
use Rattle.laws.specs.Memory.{put, part}
use Rattle.route.specs.Route.{Answer, none, route, View, unheard, heard}

-- Tag 1 is heard none, tag 2 a heard route, its cells as they stand; any other tag is not heard.
unfoldable pub view_of : ℕ → List ℕ → View
view_of tag cells = elim (eqb tag 2) [ true ↦ heard (route cells) | false ↦ elim (eqb tag 1) [ true ↦ heard none | false ↦ unheard ] ]

-- The view in the record at a place.
unfoldable pub record_at : List ℕ → ℕ → View
record_at m at = view_of (get_or m at 0) (part m (at + 1) 64)

-- The view in record j.
unfoldable pub view_at : List ℕ → ℕ → View
view_at m j = record_at m (65 * j)

-- The views in the first k records, in carrier order.
unfoldable pub records : List ℕ → ℕ → List View
records m zero = []
records m (suc k) = records m k ++ (view_at m k ∷ [])

-- The views that a search for carrier i looks at: those of the carriers above it.
unfoldable pub views_of : List ℕ → ℕ → List View
views_of m i = records m (i - 1)

-- The answer that a view shows; none where nothing is heard.
unfoldable pub shown : View → Answer
shown unheard = none
shown (heard x) = x

-- The answer in record i.
unfoldable pub answer_in : List ℕ → ℕ → Answer
answer_in m i = shown (view_at m i)

-- The cell of the route in record j at beat t; a number that is no cell where the record has no route.
unfoldable pub view_cell : List ℕ → ℕ → ℕ → ℕ
view_cell m j t = elim (eqb (get_or m (65 * j) 0) 2) [ true ↦ get_or m (65 * j + 1 + t) 0 | false ↦ 65535 ]

-- Cell c is not that of record j at any of the first n beats that is t or beside t.
abbrev pub Away : List ℕ → ℕ → ℕ → ℕ → ℕ → Type 0
Away m j n t c = (u : ℕ) → u < n → u ≤ suc t → t ≤ suc u → c ≡ view_cell m j u → ⊥

-- The record of an answer.
unfoldable pub record_of : Answer → List ℕ
record_of none = 1 ∷ replicate 64 0
record_of (route r) = 2 ∷ r

-- The records of answers, one behind the other.
unfoldable pub records_of : List Answer → List ℕ
records_of [] = []
records_of (x ∷ xs) = record_of x ++ records_of xs

-- The memory with the records of answers in front, and the rest as it was.
unfoldable pub stored : List Answer → List ℕ → List ℕ
stored xs old = put old 0 (records_of xs)

-- A list cut or filled up with zeros to k numbers.
unfoldable pub resized : ℕ → List ℕ → List ℕ
resized zero xs = []
resized (suc k) [] = 0 ∷ resized k []
resized (suc k) (x ∷ xs) = x ∷ resized k xs

-- The record of a view: zeros where nothing is heard, otherwise the record of the answer, cut or filled up to its 65 numbers.
unfoldable pub slot : View → List ℕ
slot unheard = resized 65 []
slot (heard x) = resized 65 (record_of x)

-- The record at one place copied to another.
unfoldable pub moved : List ℕ → ℕ → ℕ → List ℕ
moved m from to = put m to (part m from 65)
