-- The states within document 01's ranges, as refusal 10 words them: a memory is valid exactly if it is the encoding of such a state.
use Rattle.std.specs.Prelude.{ℕ, ◌*◌, ◌≤◌, ◌<◌, List, ◌≡◌, length, get_or}
use Rattle.floor.specs.declared.Floor.{Floor}
use Rattle.route.specs.Route.{Answer, none, route}
use Rattle.reference.specs.State.{State}
use Rattle.reference.specs.Bounds.{Throughout}

-- The cells of a route: 64 of them, those of beats 0 to H in the grid, those after beat H zero.
pub record SoundCells (f : Floor) (r : List ℕ) : Type 0 where
  pub long : length r ≡ 64
  pub inside : (t : ℕ) → t ≤ f.horizon → get_or r t 0 < f.width * f.height
  pub behind : (t : ℕ) → f.horizon < t → get_or r t 0 ≡ 0

-- An answer is none, or a route with such cells.
unfoldable pub Sound : Floor → Answer → Type 0
Sound f none = Unit {0}
Sound f (route r) = SoundCells f r

-- The state is within the ranges: its count and the lengths of its channels, and every answer, message and heard view.
pub record WithinRanges (f : Floor) (s : State) : Type 0 where
  pub counted : s.taken ≤ 999999
  pub channels : (i j : ℕ) → j < i → i < f.carriers → length (s.chan i j) ≤ f.depth
  pub parts : Throughout f.carriers (Sound f) s
