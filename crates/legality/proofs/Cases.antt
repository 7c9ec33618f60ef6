-- Cases computed from the definitions: on a floor of 3 by 2 cells with a wall in cell 4 and a carrier from cell 0 to dock 2, a route, none,
-- not heard, each cause with its beat, and the refusals; arrivals.
use Prim.Native.Nat.{ℕ}
use mathlib.Core.List.{List, [], ◌∷◌}
use mathlib.Core.Path.{◌≡◌, refl}
use lib.ListN.{replicate}
use Rattle.floor.specs.declared.Floor.{Floor}
use Rattle.laws.specs.Memory.{part}
use Rattle.laws.specs.Verdict.{◌then◌, ◌gives◌, Outcome, value, refusal, demand, in_turn, demand_each, each}
use Rattle.floor.specs.Checks.{within, limits_of, lent_of, long_enough, start_of, count_of, docks_of, dock_of, is_dock}
use Rattle.floor.specs.Checks.{in_grid, docks_in_grid, carrier_in_grid, carriers_of, walls_of, rises, rising_of, among}
use Rattle.floor.specs.Checks.{docks_clear, clear_of_walls, clear_of, unshared, distinct_of, unrepeated, unrepeated_of, places_of, check_of}
use Rattle.route.specs.Route.{cell_at}
use Rattle.route.specs.Moves.{neighbours, near}
use Rattle.route.specs.Arrival.{settled, arrival_of}
use Rattle.search.specs.Task.{task_of}
use Rattle.legality.specs.Tests.{begin_test, cells_test, moves_test, dock_test, zero_at, blank_test, free_in, route_test, record_test}
use Rattle.legality.specs.Entry.{RecordAnswer, a_route, a_none, not_heard, wrong, record_kind, record_answer, ◌or_wrong◌}
use Rattle.legality.specs.Entry.{record_verdict, record_outcome, arrival_outcome}

abbrev floor : Floor
floor =
    record {
      width = 3;
      height = 2;
      horizon = 4;
      depth = 1;
      carriers = 1;
      walls = 1;
      starts = replicate 8 0;
      counts = 1 ∷ replicate 7 0;
      docks = 2 ∷ replicate 31 0;
    }

-- A tag with five cells and the number behind them, as a record; what is answered of it.
abbrev told : (tag c₁ c₂ c₃ c₄ c₅ behind : ℕ) → List ℕ
told tag c₁ c₂ c₃ c₄ c₅ behind = tag ∷ c₁ ∷ c₂ ∷ c₃ ∷ c₄ ∷ c₅ ∷ behind ∷ replicate 58 0

abbrev answer : (tag c₁ c₂ c₃ c₄ c₅ behind : ℕ) → Outcome RecordAnswer
answer tag c₁ c₂ c₃ c₄ c₅ behind = record_outcome floor (4 ∷ []) 1 (told tag c₁ c₂ c₃ c₄ c₅ behind)

record Cases : Type 0 where
  a_route_lem : answer 2 0 1 2 2 2 0 ≡ value (a_route 2)
  -- It may pass the dock and come back.
  comes_back : answer 2 0 1 2 1 2 0 ≡ value (a_route 4)
  none : answer 1 0 0 0 0 0 0 ≡ value a_none
  not_heard_lem : answer 0 0 0 0 0 0 0 ≡ value not_heard
  -- 3: another start. 4: a wall, and a number that is no cell. 5: over a corner, and from the end of a row to the next.
  other_start : answer 2 1 2 2 2 2 0 ≡ value (wrong 3 0)
  on_wall : answer 2 0 3 4 5 2 0 ≡ value (wrong 4 2)
  no_cell : answer 2 0 1 2 5 6 0 ≡ value (wrong 4 4)
  over_corner : answer 2 0 1 5 2 2 0 ≡ value (wrong 5 1)
  next_row : answer 2 0 1 2 3 2 0 ≡ value (wrong 5 2)
  -- 6: no dock. 7: after the horizon, and a number with none. 8: another tag.
  no_dock : answer 2 0 1 1 1 1 0 ≡ value (wrong 6 4)
  not_blank : answer 2 0 1 2 2 2 7 ≡ value (wrong 7 5)
  none_with : answer 1 0 1 2 2 2 0 ≡ value (wrong 7 1)
  other_tag : answer 3 0 1 2 2 2 0 ≡ value (wrong 8 0)
  -- Each cause goes before the later ones.
  start_first : answer 2 1 9 9 9 9 9 ≡ value (wrong 3 0)
  cell_first : answer 2 0 5 5 5 9 9 ≡ value (wrong 4 4)
  -- A wall that is counted and not lent, a record that is too short, a carrier that is not there.
  few_walls : record_outcome floor [] 1 (told 2 0 1 2 2 2 0) ≡ refusal 9 0
  too_short : record_outcome floor (4 ∷ []) 1 (replicate 64 0) ≡ refusal 9 0
  no_carrier : record_outcome floor (4 ∷ []) 2 (told 2 0 1 2 2 2 0) ≡ refusal 7 0
  -- The arrival; a horizon above 63 counts as 63.
  arrival : arrival_outcome (0 ∷ 1 ∷ 2 ∷ 2 ∷ 2 ∷ replicate 59 0) 4 ≡ value 2
  arrival_63 : arrival_outcome (0 ∷ 1 ∷ replicate 62 0) 99 ≡ value 2
  short_route : arrival_outcome (replicate 63 0) 4 ≡ refusal 9 0

cases : Cases
unfolding part ◌then◌ ◌gives◌ demand in_turn demand_each within limits_of lent_of long_enough start_of count_of docks_of dock_of is_dock each in_grid
    docks_in_grid carrier_in_grid carriers_of walls_of rises rising_of among docks_clear clear_of_walls clear_of unshared distinct_of unrepeated
    unrepeated_of places_of check_of cell_at neighbours near settled arrival_of task_of begin_test cells_test moves_test dock_test zero_at blank_test
    free_in route_test record_test record_kind record_answer ◌or_wrong◌ record_verdict record_outcome arrival_outcome
cases =
    record {
      a_route_lem = refl;
      comes_back = refl;
      none = refl;
      not_heard_lem = refl;
      other_start = refl;
      on_wall = refl;
      no_cell = refl;
      over_corner = refl;
      next_row = refl;
      no_dock = refl;
      not_blank = refl;
      none_with = refl;
      other_tag = refl;
      start_first = refl;
      cell_first = refl;
      few_walls = refl;
      too_short = refl;
      no_carrier = refl;
      arrival = refl;
      arrival_63 = refl;
      short_route = refl;
    }
