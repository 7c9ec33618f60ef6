-- Two routes spaced: no beat's cell of one is the other's at that beat or at one beside it. It says the same as `ConflictFree`
-- (`proofs/SpacedLaws.antt`), of any two lists of numbers, and a search computes with it. Nothing claimed rests on this.
use Rattle.std.specs.Prelude.{ℕ, suc, ◌≤◌, ◌<◌, List, ◌≡◌}
use Rattle.route.specs.Route.{cell_at}

-- Through beat H, r and q are in different cells, r is not where q was one beat before, and not where q is one beat later.
pub record Spaced (H : ℕ) (r q : List ℕ) : Type 0 where
  pub at_once : (t : ℕ) → t ≤ H → cell_at r t ≡ cell_at q t → ⊥
  pub behind : (t : ℕ) → t < H → cell_at r (suc t) ≡ cell_at q t → ⊥
  pub before : (t : ℕ) → t < H → cell_at r t ≡ cell_at q (suc t) → ⊥
