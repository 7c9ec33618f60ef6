-- Cases computed from the definitions: three seeds with their first draws, and trials of a machine whose carriers all answer none.
use Prim.Native.Nat.{ℕ}
use mathlib.Core.List.{List, [], ◌∷◌, map}
use mathlib.Core.Path.{◌≡◌, refl}
use Rattle.laws.specs.Verdict.{passes, demand, ◌then◌, in_turn, demand_each}
use Rattle.route.specs.Route.{none}
use Rattle.reference.specs.Ranges.{below, joined, update, update_pair}
use Rattle.reference.specs.State.{Machine, fresh, views, tick}
use Rattle.reference.specs.Step.{Step, plan, deliver, is_there, has_capacity, is_empty, waits_for, is_open, same_cells, same_answer}
use Rattle.reference.specs.Take.{is_news, send, plan_as, oldest, newer, deliver_to, effect, counted, after_step}
use Rattle.reference.specs.Take.{StepAnswer, kept, sent, delivered, step_answer}
use Rattle.reference.specs.Ranking.{deliveries_from, ranking, none_open, is_silent}
use Rattle.reference.specs.Quiescent.{ceiling}
use Rattle.orders.specs.Generator.{next_number, drawn_by}
use Rattle.orders.specs.Orders.{Order, first, round, drawn, places, step_at, open_at, passing, open_places}
use Rattle.orders.specs.Orders.{turn, chosen, start_memory, remembered}
use Rattle.orders.specs.Trial.{Entry, next_step, entry_of, reported, try_from, trial, steps_in}

-- Seed 0: 0 × 1664525 + 1013904223 = 1013904223 = 15470 × 65536 + 62303.
seed_0 : drawn_by 0 ≡ 15470
unfolding next_number drawn_by
seed_0 = refl

-- Seed 12345: 12345 × 1664525 + 1013904223 = 21562465348 = 5 × 2^32 + 87628868, and 87628868 = 1337 × 65536 + 7236.
seed_12345 : drawn_by 12345 ≡ 1337
unfolding next_number drawn_by
seed_12345 = refl

-- The largest seed, 2^32 − 1, is −1 modulo 2^32: 1013904223 − 1664525 = 1012239698 = 15445 × 65536 + 36178.
seed_most : drawn_by 4294967295 ≡ 15445
unfolding next_number drawn_by
seed_most = refl

-- A machine of n carriers with channels of one place, whose best answers are all none.
abbrev idler : ℕ → Machine
idler n = record { carriers = n; depth = 1; needed = 0; respond = λ i vs. none }

-- The steps and the answers of a trial.
abbrev steps : Order → ℕ → ℕ → List Step
steps o n seed = steps_in (trial o (idler n) seed).report

abbrev answers : Order → ℕ → ℕ → List StepAnswer
answers o n seed = map (λ (x : Entry). x.answer) (trial o (idler n) seed).report

-- Trials of two and three carriers.
record TrialCases : Type 0 where
  -- Order 1 lets carrier 3 plan again between the deliveries to it; order 2 goes on to the next delivery.
  first_of_three : steps first 3 0 ≡
      (plan 0 ∷ plan 1 ∷ plan 2 ∷ deliver 0 1 ∷ deliver 0 2 ∷ plan 2 ∷ deliver 1 2 ∷ plan 1 ∷ plan 2 ∷ [])
  round_of_three : steps round 3 0 ≡ (plan 0 ∷ plan 1 ∷ plan 2 ∷ deliver 0 1 ∷ deliver 0 2 ∷ deliver 1 2 ∷ plan 1 ∷ plan 2 ∷ [])
  -- Seed 12345 first draws 1337, odd, with two open steps; seed 0 draws 15470, even.
  drawn_odd : steps drawn 2 12345 ≡ (plan 1 ∷ plan 0 ∷ deliver 0 1 ∷ plan 1 ∷ [])
  drawn_even : steps drawn 2 0 ≡ (plan 0 ∷ plan 1 ∷ deliver 0 1 ∷ plan 1 ∷ [])
  told : answers round 3 0 ≡ (sent ∷ sent ∷ sent ∷ delivered ∷ delivered ∷ delivered ∷ kept ∷ kept ∷ [])

trials : TrialCases
unfolding
    passes demand ◌then◌ in_turn demand_each below joined update update_pair fresh views tick is_there has_capacity is_empty waits_for is_open
    same_cells same_answer is_news send plan_as oldest newer deliver_to effect counted after_step step_answer
    deliveries_from ranking none_open is_silent ceiling next_number drawn_by
    places step_at open_at passing open_places turn chosen start_memory remembered next_step entry_of reported try_from trial steps_in
trials = record { first_of_three = refl; round_of_three = refl; drawn_odd = refl; drawn_even = refl; told = refl }
