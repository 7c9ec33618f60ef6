-- What a view occupies (document 02, slip 2): a carrier without a route is still on the floor. Carriers count from 0.
use Rattle.std.specs.Prelude.{ℕ, suc, ◌+◌, ◌*◌, ◌-◌, cond, List, [], ◌∷◌, ◌++◌, eqb, get_or, replicate}
use Rattle.laws.specs.Memory.{part}
use Rattle.floor.specs.declared.Floor.{Floor}
use Rattle.floor.specs.Checks.{start_of}
use Rattle.route.specs.Route.{none, route, View, unheard, heard}

-- The route that stays at the start of carrier j at every beat 0 to H.
unfoldable pub parked : Floor → ℕ → List ℕ
parked f j = replicate (f.horizon + 1) (start_of f j) ++ replicate (63 - f.horizon) 0

-- What a view of carrier j is seen as: a heard none as the route that stays at j's start, any other view as it is.
unfoldable pub seen_as : Floor → ℕ → View → View
seen_as f j unheard = unheard
seen_as f j (heard none) = heard (route (parked f j))
seen_as f j (heard (route r)) = heard (route r)

-- Views as they are seen, the first being carrier j's and each next one that of the carrier below.
unfoldable pub seen_from : Floor → ℕ → List View → List View
seen_from f j [] = []
seen_from f j (v ∷ vs) = seen_as f j v ∷ seen_from f (suc j) vs

-- Views in carrier order as they are seen.
unfoldable pub seen : Floor → List View → List View
seen f vs = seen_from f 0 vs

-- Record j of a memory as it is seen: that of the route that stays at j's start where its tag says none, otherwise as it stands.
unfoldable pub seen_record : Floor → ℕ → List ℕ → List ℕ
seen_record f j m = cond (eqb (get_or m (65 * j) 0) 1) (2 ∷ parked f j) (part m (65 * j) 65)
