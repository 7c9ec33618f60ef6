-- Who shuts a carrier in (document 02, slip 8): the procedure of the slip over views, one of each carrier above. Carriers count from 0.
-- A carrier that is left out is not heard, and so occupies nothing; one that is kept and has none stays at its start, as ever.
use Rattle.std.specs.Prelude.{ℕ, zero, suc, ◌+◌, ◌*◌, List, [], ◌∷◌, map, set, take}
use Rattle.floor.specs.declared.Floor.{Floor}
use Rattle.route.specs.Route.{Answer, none, route, View, unheard, heard}
use Rattle.planner.specs.Plan.{respond_of, plan_of}

-- Views with carrier j left out.
unfoldable pub views_without : ℕ → List View → List View
views_without j vs = set vs j unheard

-- The first thing where the answer is none, the second where it is a route.
unfoldable pub if_none : {A : Type 0} → Answer → A → A → A
if_none none x y = x
if_none (route r) x y = y

-- Carrier j tried: it is left out if against what is then left there is still no route, and kept otherwise.
unfoldable pub tried : (List View → Answer) → ℕ → List View → List View
tried respond j vs = if_none (respond (views_without j vs)) (views_without j vs) vs

-- What is left of the views when the carriers 0 to k − 1 were tried in this order; what has gone stays out.
unfoldable pub left_after : (List View → Answer) → ℕ → List View → List View
left_after respond zero vs = vs
left_after respond (suc k) vs = tried respond k (left_after respond k vs)

-- The carriers that are heard as one number: digit j is 1 if carrier j is one of them, else 0.
unfoldable pub set_of : List View → ℕ
set_of [] = 0
set_of (unheard ∷ vs) = 2 * set_of vs
set_of (heard x ∷ vs) = 2 * set_of vs + 1

-- The sequential answers of the carriers above carrier i.
unfoldable pub answers_above : Floor → List ℕ → ℕ → List Answer
answers_above f ws i = take i (plan_of f ws)

-- The carriers that shut carrier i in: begin with all above it, and leave out each that can go, from carrier 0 downwards in rank.
unfoldable pub blockers_of : Floor → List ℕ → ℕ → ℕ
blockers_of f ws i = set_of (left_after (respond_of f ws i) i (map heard (answers_above f ws i)))
