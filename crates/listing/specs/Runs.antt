-- The complete runs of a machine, from fresh to silent, in the order of their first differing step (document 02, slip 6).
use Rattle.std.specs.Prelude.{ℕ, zero, suc, Bool, true, false, List, [], ◌∷◌, ◌++◌, map, length, get_or}
use Rattle.reference.specs.State.{Machine, State, fresh}
use Rattle.reference.specs.Step.{Step, is_open}
use Rattle.reference.specs.Take.{after_step}
use Rattle.reference.specs.Ranking.{ranking, is_silent}
use Rattle.reference.specs.Quiescent.{ceiling}
use Rattle.orders.specs.Trial.{Entry, entry_of}

-- A run is the steps that it takes.
abbrev pub Run : Type 0
Run = List Step

-- Each run of a list with the step x in front.
unfoldable pub each_behind : Step → List Run → List Run
each_behind x ys = map (λ (xs : Run). x ∷ xs) ys

-- The runs that begin with one of the listed steps: for each that is open, in the list's order, those that go on behind it.
unfoldable pub beginning : (Step → Bool) → (Step → List Run) → List Step → List Run
beginning opens onward [] = []
beginning opens onward (x ∷ xs) = elim (opens x) [ true ↦ each_behind x (onward x) | false ↦ [] ] ++ beginning opens onward xs

-- The complete runs from state s with at most that number of steps left: the empty run where s is silent, otherwise those that begin with
-- an open step, in the ranking's order.
unfoldable pub runs_from : Machine → ℕ → State → List Run
runs_from M zero s = elim (is_silent M s) [ true ↦ [] ∷ [] | false ↦ [] ]
runs_from M (suc left) s =
    elim
    (is_silent M s) [
      | true ↦ [] ∷ []
      | false ↦ beginning (is_open M s) (λ x. runs_from M left (after_step M s x)) (ranking M.carriers)
    ]

-- The complete runs of a machine, with as many steps as the ceiling has.
unfoldable pub runs_of : Machine → List Run
runs_of M = runs_from M (ceiling M.carriers) fresh

-- How many they are, and the run of a rank, counted from 0.
unfoldable pub total : Machine → ℕ
total M = length (runs_of M)

unfoldable pub run_at : Machine → ℕ → Run
run_at M rank = get_or (runs_of M) rank []

-- The report of a run from state s: each step with its answer.
unfoldable pub report_from : Machine → State → Run → List Entry
report_from M s [] = []
report_from M s (x ∷ xs) = entry_of M s x ∷ report_from M (after_step M s x) xs
