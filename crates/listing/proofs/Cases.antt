-- Cases computed from the definitions: the runs of two carriers, and how many three carriers have.
use Prim.Native.Nat.{ℕ}
use mathlib.Core.Bool.{true, false}
use mathlib.Core.List.{List, [], ◌∷◌}
use mathlib.Core.Path.{◌≡◌, refl}
use lib.Dec.{eqb}
use Rattle.laws.specs.Verdict.{passes, demand, ◌then◌, in_turn, demand_each, each}
use Rattle.route.specs.Route.{Answer, none, route, View, unheard, heard}
use Rattle.reference.specs.Ranges.{below, joined, update, update_pair}
use Rattle.reference.specs.State.{Machine, fresh, views, tick}
use Rattle.reference.specs.Step.{plan, deliver, is_there, has_capacity, is_empty, waits_for, is_open, same_cells, same_answer}
use Rattle.reference.specs.Take.{is_news, send, plan_as, oldest, newer, deliver_to, effect, counted, after_step}
use Rattle.reference.specs.Ranking.{deliveries_from, ranking, none_open, is_silent}
use Rattle.reference.specs.Quiescent.{ceiling}
use Rattle.listing.specs.Runs.{each_behind, beginning, runs_from, runs_of, total}

-- A machine of n carriers whose best answers are all none.
abbrev idler : ℕ → ℕ → Machine
idler n depth = record { carriers = n; depth = depth; needed = 0; respond = λ i vs. none }

-- The answer of carrier 2 changes when it hears carrier 1; all other answers are none.
on_hearing : List View → Answer
on_hearing [] = none
on_hearing (unheard ∷ vs) = none
on_hearing (heard x ∷ vs) = route []

changes : ℕ → List View → Answer
changes i vs = elim (eqb i 1) [ true ↦ on_hearing vs | false ↦ none ]

abbrev changer : ℕ → ℕ → Machine
changer n depth = record { carriers = n; depth = depth; needed = 0; respond = changes }

record Cases : Type 0 where
  -- Plan 1, plan 2, deliver, plan 2; plan 1, deliver, plan 2; plan 2, plan 1, deliver, plan 2.
  two : runs_of (idler 2 1) ≡ (
      (plan 0 ∷ plan 1 ∷ deliver 0 1 ∷ plan 1 ∷ []) ∷
      (plan 0 ∷ deliver 0 1 ∷ plan 1 ∷ []) ∷
      (plan 1 ∷ plan 0 ∷ deliver 0 1 ∷ plan 1 ∷ []) ∷ [])
  one : runs_of (idler 1 1) ≡ ((plan 0 ∷ []) ∷ [])
  -- Three carriers that keep their answers, and three of which carrier 2 changes its own on hearing carrier 1; channels of one place and of
  -- two.
  kept_1 : total (idler 3 1) ≡ 495
  kept_2 : total (idler 3 2) ≡ 620
  changed_1 : total (changer 3 1) ≡ 888
  changed_2 : total (changer 3 2) ≡ 1186
  -- A larger depth adds none.
  changed_4 : total (changer 3 4) ≡ 1186

cases : Cases
unfolding
    passes demand ◌then◌ in_turn demand_each below joined each update update_pair fresh views tick is_there has_capacity is_empty waits_for is_open
    same_cells same_answer is_news send plan_as oldest newer deliver_to effect counted after_step
    deliveries_from ranking none_open is_silent ceiling each_behind beginning runs_from runs_of total on_hearing changes
cases = record { two = refl; one = refl; kept_1 = refl; kept_2 = refl; changed_1 = refl; changed_2 = refl; changed_4 = refl }
