-- The end of a run (document 01, 'The machine').
use Rattle.std.specs.Prelude.{ℕ, Bool, true, false, ◌&&◌, List, [], ◌∷◌, eqb}
use Rattle.reference.specs.State.{Machine}
use Rattle.reference.specs.Step.{Step}
use Rattle.reference.specs.Ranking.{is_silent}
use Rattle.reference.specs.Run.{RunResult}

-- How a run ends.
pub data RunEnding : Type 0 where
  silent : RunEnding
  spent : RunEnding
  ended : RunEnding

-- Steps are left.
unfoldable pub any_left : List Step → Bool
any_left [] = false
any_left (x ∷ xs) = true

-- Silent, if no step is open then; otherwise spent, if the budget is used up and steps are left; otherwise ended.
unfoldable pub ends_as : (none_open usedUp : Bool) → RunEnding
ends_as true usedUp = silent
ends_as false true = spent
ends_as false false = ended

-- The end of a run with budget b: it is used up if taken equals the budget and unread steps are left.
unfoldable pub ending : Machine → ℕ → RunResult → RunEnding
ending M b x = ends_as (is_silent M x.state) (eqb x.taken b && any_left x.unread)
