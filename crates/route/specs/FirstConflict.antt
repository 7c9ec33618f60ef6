-- The first conflict of two routes (document 02, slips 7 and 9), declared: its kind and its beat. H is the horizon, a beat itself. A
-- further kind is a constructor with its place in the order and a line of `ConflictAt`; of the test, a line of `is_conflict` and a name in
-- `kinds`.
use Rattle.std.specs.Prelude.{ℕ, ◌≤◌, ◌<◌, List, ◌⊎◌, ◌≡◌}
use Rattle.route.specs.Conflict.{VertexConflict, SwapConflict, FollowingConflict}

-- The kinds of conflict: vertex conflict (the paper's 'same cell'), swap conflict (its 'change of places'), following conflict.
pub data ConflictKind : Type 0 where
  same_cell : ConflictKind
  change_of_places : ConflictKind
  following : ConflictKind

-- The place of a kind in the order of those at one beat.
unfoldable pub rank_of : ConflictKind → ℕ
rank_of same_cell = 0
rank_of change_of_places = 1
rank_of following = 2

-- Routes r and q have a conflict of a kind at beat t, through beat H; a change of places and a following are dated by the
-- beat before it.
unfoldable pub ConflictAt : ℕ → List ℕ → List ℕ → ℕ → ConflictKind → Type 0
ConflictAt H r q t same_cell = (t ≤ H) × VertexConflict r q t
ConflictAt H r q t change_of_places = (t < H) × SwapConflict r q t
ConflictAt H r q t following = (t < H) × FollowingConflict r q t

-- The conflict of a kind at beat t is the first: there is none at an earlier beat, and none of an earlier kind at that beat.
pub record FirstAt (H : ℕ) (r q : List ℕ) (t : ℕ) (kind : ConflictKind) : Type 0 where
  pub there : ConflictAt H r q t kind
  pub first : (u : ℕ) (kind' : ConflictKind) → (u < t) ⊎ ((u ≡ t) × (rank_of kind' < rank_of kind)) → ConflictAt H r q u kind' → ⊥

-- The answer of the conflict test: free, or a beat with a kind.
pub data ConflictAnswer : Type 0 where
  free : ConflictAnswer
  dated : ℕ → ConflictKind → ConflictAnswer
