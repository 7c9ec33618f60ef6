-- Conflicts of two routes, by beat (document 01, 'Routes'; document 02, slip 9). H is the horizon, a beat itself.
use Rattle.std.specs.Prelude.{ℕ, suc, ◌≤◌, ◌<◌, ◌⊎◌, ◌≡◌}
use mathlib.Core.List.{List, Memᴰ}
use Rattle.route.specs.Route.{cell_at, none, route, View, unheard, heard}

-- Vertex conflict (the paper's 'in one cell at one beat') at beat t.
unfoldable pub VertexConflict : List ℕ → List ℕ → ℕ → Type 0
VertexConflict r q t = cell_at r t ≡ cell_at q t

-- Swap conflict (the paper's 'change places') between beats t and t + 1.
unfoldable pub SwapConflict : List ℕ → List ℕ → ℕ → Type 0
SwapConflict r q t = (cell_at r t ≡ cell_at q (suc t)) × (cell_at r (suc t) ≡ cell_at q t)

-- Route r enters, between beats t and t + 1, the cell that q leaves: it is then where q was, r moves, and q does not stay.
unfoldable pub Follows : List ℕ → List ℕ → ℕ → Type 0
Follows r q t = (cell_at r (suc t) ≡ cell_at q t) × (cell_at r (suc t) ≡ cell_at r t → ⊥) × (cell_at q (suc t) ≡ cell_at q t → ⊥)

-- Following conflict (the paper's 'following') between beats t and t + 1, whichever enters.
unfoldable pub FollowingConflict : List ℕ → List ℕ → ℕ → Type 0
FollowingConflict r q t = Follows r q t ⊎ Follows q r t

-- Routes r and q conflict through beat H.
unfoldable pub Conflict : ℕ → List ℕ → List ℕ → Type 0
Conflict H r q =
    ((t : ℕ) × (t ≤ H) × VertexConflict r q t) ⊎
    (((t : ℕ) × (t < H) × SwapConflict r q t) ⊎ ((t : ℕ) × (t < H) × FollowingConflict r q t))

-- Routes r and q have none of these conflicts through beat H.
pub record ConflictFree (H : ℕ) (r q : List ℕ) : Type 0 where
  pub no_vertex : (t : ℕ) → t ≤ H → VertexConflict r q t → ⊥
  pub no_swap : (t : ℕ) → t < H → SwapConflict r q t → ⊥
  pub no_following : (t : ℕ) → t < H → FollowingConflict r q t → ⊥

-- The view shows no route.
unfoldable pub ShowsNoRoute : View → Type 0
ShowsNoRoute v = (v ≡ unheard) ⊎ (v ≡ heard none)

-- Route r has no conflict with the route that a view shows. Not heard occupies nothing; what a heard none occupies is said above, where
-- it is seen as a route (`seen_as`, crate `records`).
unfoldable pub ClearOfView : ℕ → List ℕ → View → Type 0
ClearOfView H r unheard = Unit {0}
ClearOfView H r (heard none) = Unit {0}
ClearOfView H r (heard (route q)) = ConflictFree H r q

-- Route r has no conflict with any view of the list vs.
unfoldable pub ClearOf : ℕ → List ℕ → List View → Type 0
ClearOf H r vs = (v : View) → Memᴰ v vs → ClearOfView H r v
