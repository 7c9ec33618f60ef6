-- What makes a run complete, and which of two runs is the earlier one (document 02, slip 6).
use Rattle.std.specs.Prelude.{ℕ, ◌<◌, true, List, [], ◌∷◌, ◌⊎◌, ◌≡◌}
use Rattle.reference.specs.State.{Machine, State}
use Rattle.reference.specs.Step.{Step, is_open}
use Rattle.reference.specs.Take.{after_step}
use Rattle.reference.specs.Ranking.{is_silent}
use Rattle.orders.specs.Orders.{places, step_at}

-- From state s, each step of the run is open when it is taken, and no step is open after the last one.
unfoldable pub Complete : Machine → State → List Step → Type 0
Complete M s [] = is_silent M s ≡ true
Complete M s (x ∷ xs) = (is_open M s x ≡ true) × Complete M (after_step M s x) xs

-- Step x has a place of the ranking of n carriers that is before the place of step y.
pub record RanksBefore (n : ℕ) (x y : Step) : Type 0 where
  pub first : ℕ
  pub second : ℕ
  pub before : first < second
  pub listed : second < places n
  pub first_is : step_at n first ≡ x
  pub second_is : step_at n second ≡ y

-- The first run is the earlier one: where the two first differ, its step is before the other's in the ranking.
unfoldable pub EarlierRun : ℕ → List Step → List Step → Type 0
EarlierRun n [] ys = ⊥
EarlierRun n (x ∷ xs) [] = ⊥
EarlierRun n (x ∷ xs) (y ∷ ys) = RanksBefore n x y ⊎ ((x ≡ y) × EarlierRun n xs ys)
