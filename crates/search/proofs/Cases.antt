-- Cases computed from the definitions: document 01's floors 1 to 3 as requests, with what the memory of views says, several docks, and
-- three refusals.
use Prim.Native.Nat.{ℕ}
use mathlib.Core.List.{List, [], ◌∷◌}
use mathlib.Core.Path.{◌≡◌, refl}
use lib.ListN.{replicate}
use Rattle.floor.specs.declared.Floor.{Floor}
use Rattle.laws.specs.Memory.{part}
use Rattle.laws.specs.Verdict.{◌then◌, ◌gives◌, refusal, demand, in_turn, demand_each, each}
use Rattle.floor.specs.OneDock.{one_each, with_one_dock}
use Rattle.floor.specs.Checks.{within, limits_of, lent_of, long_enough, start_of, count_of, docks_of, dock_of, is_dock}
use Rattle.floor.specs.Checks.{in_grid, docks_in_grid, carrier_in_grid, carriers_of, walls_of, rising_of, among}
use Rattle.floor.specs.Checks.{docks_clear, clear_of_walls, clear_of, unshared, distinct_of, unrepeated, unrepeated_of, places_of, check_of}
use Rattle.route.specs.Route.{cell_at, none, route}
use Rattle.route.specs.Moves.{neighbours, near, vacant, every, standable, allowed, start_clear}
use Rattle.route.specs.Search.{cost, cheaper, cheapest, holds, ended, val, onward, walk, walk_from, best}
use Rattle.records.specs.Records.{view_of, record_at, view_at, records, views_of}
use Rattle.records.specs.Seen.{parked, seen_as, seen_from, seen}
use Rattle.search.specs.Task.{task_of}
use Rattle.search.specs.Answers.{answered}
use Rattle.search.specs.Search.{request_of, search_of}

-- Document 01's floor of 3 by 2 with two carriers that change sides, for a horizon.
abbrev sides : ℕ → Floor
sides h =
    with_one_dock
    (record {
      width = 3;
      height = 2;
      horizon = h;
      depth = 1;
      carriers = 2;
      walls = 0;
      starts = 0 ∷ 2 ∷ replicate 6 0;
      goals = 2 ∷ 0 ∷ replicate 6 0;
    })

-- A corridor of five cells: carrier 1 stays at its start, cell 0; carrier 2 starts beside it, its docks being the corridor's ends.
abbrev ends : Floor
ends =
    record {
      width = 5;
      height = 1;
      horizon = 4;
      depth = 1;
      carriers = 2;
      walls = 0;
      starts = 0 ∷ 1 ∷ replicate 6 0;
      counts = 1 ∷ 2 ∷ replicate 6 0;
      docks = 0 ∷ 9 ∷ 9 ∷ 9 ∷ 0 ∷ 4 ∷ 9 ∷ 9 ∷ replicate 24 0;
    }

-- Memory of two views: carrier 1's tag and first five cells.
abbrev told : ℕ → ℕ → ℕ → ℕ → ℕ → ℕ → List ℕ
told tag c₁ c₂ c₃ c₄ c₅ = tag ∷ c₁ ∷ c₂ ∷ c₃ ∷ c₄ ∷ c₅ ∷ replicate 124 0

-- Floor 2: carrier 1 goes straight, carrier 2 round it. Floor 3: with horizon 3 there is no way round. Heard none occupies carrier 1's
-- start, which is carrier 2's dock; not heard, with any numbers beside the tag, occupies nothing. Of two docks the nearer is gone to, where
-- nobody stays there; places past the dock count are no docks. Too few views: 9. A carrier that is not there: 7.
record Cases : Type 0 where
  first_carrier : search_of (sides 4) [] 1 (told 0 0 0 0 0 0) ≡ answered (route (0 ∷ 1 ∷ 2 ∷ 2 ∷ 2 ∷ replicate 59 0))
  second_carrier : search_of (sides 4) [] 2 (told 2 0 1 2 2 2) ≡ answered (route (2 ∷ 5 ∷ 4 ∷ 1 ∷ 0 ∷ replicate 59 0))
  second_carrier_short : search_of (sides 3) [] 2 (told 2 0 1 2 2 0) ≡ answered none
  heard_none : search_of (sides 4) [] 2 (told 1 0 1 2 2 2) ≡ answered none
  not_heard_lem : search_of (sides 4) [] 2 (told 7 0 1 2 2 2) ≡ answered (route (2 ∷ 1 ∷ 0 ∷ 0 ∷ 0 ∷ replicate 59 0))
  nearer_dock : search_of ends [] 2 (told 0 0 0 0 0 0) ≡ answered (route (1 ∷ 0 ∷ 0 ∷ 0 ∷ 0 ∷ replicate 59 0))
  nearer_dock_taken : search_of ends [] 2 (told 2 0 0 0 0 0) ≡ answered (route (1 ∷ 2 ∷ 3 ∷ 4 ∷ 4 ∷ replicate 59 0))
  other_dock_passed : search_of ends [] 2 (told 2 4 4 4 4 3) ≡ answered (route (1 ∷ 0 ∷ 0 ∷ 0 ∷ 0 ∷ replicate 59 0))
  few_views : search_of (sides 4) [] 3 (replicate 129 0) ≡ refusal 9 0
  no_carrier : search_of (sides 4) [] 3 (replicate 130 0) ≡ refusal 7 0

cases : Cases
unfolding search_of ◌gives◌ request_of check_of limits_of lent_of long_enough places_of carriers_of walls_of rising_of clear_of distinct_of unrepeated_of
    within demand ◌then◌ demand_each in_turn in_grid docks_in_grid carrier_in_grid start_of count_of docks_of dock_of is_dock each docks_clear
    clear_of_walls among unshared unrepeated one_each with_one_dock task_of views_of records view_at record_at view_of part seen_as seen_from seen
    parked cell_at
    neighbours near vacant every standable allowed start_clear cost cheaper cheapest holds ended val onward walk walk_from best
cases =
    record {
      first_carrier = refl;
      second_carrier = refl;
      second_carrier_short = refl;
      heard_none = refl;
      not_heard_lem = refl;
      nearer_dock = refl;
      nearer_dock_taken = refl;
      other_dock_passed = refl;
      few_views = refl;
      no_carrier = refl;
    }

-- A horizon of 64: 2, field 3.
long_horizon : search_of (sides 64) [] 1 [] ≡ refusal 2 3
unfolding search_of ◌gives◌ request_of check_of limits_of within demand ◌then◌ with_one_dock
long_horizon = refl
