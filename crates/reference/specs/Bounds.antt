-- What holds of every part of a reached state: the range of channels and count (document 01, 'The machine'), and whatever holds of
-- none and of every best response. Refusal 10 never comes up for this reason.
use Rattle.std.specs.Prelude.{ℕ, ◌≤◌, ◌<◌, List, [], ◌∷◌, length}
use Rattle.route.specs.Route.{Answer, View, unheard, heard}
use Rattle.reference.specs.State.{Machine, State}

-- Every channel has at most depth messages, and the taken count is at most 999,999.
pub record InRange (M : Machine) (s : State) : Type 0 where
  pub channels : (i j : ℕ) → j < i → i < M.carriers → length (s.chan i j) ≤ M.depth
  pub counted : s.taken ≤ 999999

-- P holds of every message of a list.
unfoldable pub AllOf : (Answer → Type 0) → List Answer → Type 0
AllOf P [] = Unit {0}
AllOf P (x ∷ xs) = P x × AllOf P xs

-- P holds of what a view shows.
unfoldable pub ShownOf : (Answer → Type 0) → View → Type 0
ShownOf P unheard = Unit {0}
ShownOf P (heard x) = P x

-- P holds of every answer, message and heard view of the first n carriers.
pub record Throughout (n : ℕ) (P : Answer → Type 0) (s : State) : Type 0 where
  pub answers : (i : ℕ) → i < n → P (s.answer i)
  pub messages : (i j : ℕ) → j < i → i < n → AllOf P (s.chan i j)
  pub seen : (i j : ℕ) → j < i → i < n → ShownOf P (s.view i j)
