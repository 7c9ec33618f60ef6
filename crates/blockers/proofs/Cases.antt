-- Cases computed from the definitions: corridors and a floor of two rows, each with who shuts its last carrier in.
use Prim.Native.Nat.{ℕ, ◌-◌}
use mathlib.Core.List.{List, [], ◌∷◌, ◌++◌, map}
use mathlib.Core.Path.{◌≡◌, refl}
use lib.ListN.{length, replicate}
use Rattle.floor.specs.declared.Floor.{Floor}
use Rattle.laws.specs.Verdict.{◌then◌, ◌gives◌, value, refusal, demand, in_turn, demand_each, each}
use Rattle.floor.specs.Checks.{within, limits_of, lent_of, long_enough, start_of, count_of, docks_of, dock_of, is_dock}
use Rattle.floor.specs.Checks.{docks_in_grid, docks_clear, unrepeated, unrepeated_of}
use Rattle.laws.specs.Memory.{part}
use Rattle.floor.specs.OneDock.{one_each, with_one_dock}
use Rattle.floor.specs.Checks.{in_grid, carrier_in_grid, carriers_of, walls_of, rising_of, among, rises}
use Rattle.floor.specs.Checks.{clear_of_walls, clear_of, unshared, distinct_of, places_of, check_of}
use Rattle.route.specs.Route.{cell_at, Answer, View, heard}
use Rattle.route.specs.Moves.{neighbours, near, vacant, every, standable, allowed, start_clear}
use Rattle.route.specs.Search.{cost, cheaper, cheapest, holds, ended, val, onward, walk, walk_from, best}
use Rattle.route.specs.Sequential.{sequential}
use Rattle.records.specs.Seen.{parked, seen_as, seen_from, seen}
use Rattle.search.specs.Task.{task_of}
use Rattle.planner.specs.Plan.{respond_of, plan_of, plan_verdict}
use Rattle.planner.specs.Claims.{answer_at}
use Rattle.blockers.specs.Blockers.{views_without, if_none, tried, left_after, set_of, answers_above, blockers_of}
use Rattle.blockers.specs.Entry.{is_none, carrier_verdict, blockers_verdict, blockers_outcome}

-- A floor of width by height: its horizon, how many walls, and the starts of its carriers with one dock each, its goal.
abbrev case_floor : ℕ → ℕ → ℕ → ℕ → List ℕ → List ℕ → Floor
case_floor width height horizon walls starts goals =
    with_one_dock
    (record {
      width = width;
      height = height;
      horizon = horizon;
      depth = 1;
      carriers = length starts;
      walls = walls;
      starts = starts ++ replicate (8 - length starts) 0;
      goals = goals ++ replicate (8 - length goals) 0;
    })

-- A corridor of three cells, for a horizon: carrier 1 stands in the middle, carrier 2 has to go from end to end.
abbrev stood : ℕ → Floor
stood horizon = case_floor 3 1 horizon 0 (1 ∷ 0 ∷ []) (1 ∷ 2 ∷ [])

-- Two rows of three cells: carriers 1 and 2 stand in the middle of each, carrier 3 has to go to the other side.
abbrev gate : Floor
gate = case_floor 3 2 4 0 (1 ∷ 4 ∷ 0 ∷ []) (1 ∷ 4 ∷ 2 ∷ [])

-- A corridor of five cells with a wall in cell 3: carrier 1, in cell 1, has its goal behind it, and carrier 2 goes from cell 0 to cell 2.
abbrev stranded : Floor
stranded = case_floor 5 1 2 1 (1 ∷ 0 ∷ []) (4 ∷ 2 ∷ [])

-- A corridor of four cells with a wall in cell 2: carrier 1 stands in cell 0, carrier 2 has its goal behind the wall.
abbrev wall_between : Floor
wall_between = case_floor 4 1 3 1 (0 ∷ 1 ∷ []) (0 ∷ 3 ∷ [])

-- A corridor of four cells: carriers 1 and 2 stand in cells 1 and 2, and each alone shuts carrier 3 in.
abbrev row_floor : Floor
row_floor = case_floor 4 1 3 0 (1 ∷ 2 ∷ 0 ∷ []) (1 ∷ 2 ∷ 3 ∷ [])

-- What is left when the carriers are tried in another order.
in_order : (List View → Answer) → List ℕ → List View → List View
in_order respond [] vs = vs
in_order respond (k ∷ xs) vs = in_order respond xs (tried respond k vs)

record Cases : Type 0 where
  -- By one; by two together; by a stranded one; by walls; by the horizon.
  by_one : blockers_outcome (stood 4) [] 2 130 ≡ value 1
  by_two : blockers_outcome gate [] 3 195 ≡ value 3
  by_stranded : blockers_outcome stranded (3 ∷ []) 2 130 ≡ value 1
  by_walls : blockers_outcome wall_between (2 ∷ []) 2 130 ≡ value 0
  by_horizon : blockers_outcome (stood 1) [] 2 130 ≡ value 0
  -- The order matters: from carrier 1 downwards carrier 2 is kept, from the lowest upwards carrier 1 would be.
  downwards : blockers_outcome row_floor [] 3 195 ≡ value 2
  upwards : set_of (in_order (respond_of row_floor [] 2) (1 ∷ 0 ∷ []) (map heard (answers_above row_floor [] 2))) ≡ 1
  -- The carrier has a route: 16. There is no such carrier: 7. Too few numbers are lent: 9.
  has_route : blockers_outcome (stood 4) [] 1 130 ≡ refusal 16 0
  no_carrier : blockers_outcome (stood 4) [] 3 130 ≡ refusal 7 0
  no_first : blockers_outcome (stood 4) [] 0 130 ≡ refusal 7 0
  too_short : blockers_outcome (stood 4) [] 1 129 ≡ refusal 9 0

cases : Cases
unfolding blockers_outcome blockers_verdict carrier_verdict is_none answer_at plan_verdict ◌gives◌ check_of limits_of lent_of long_enough places_of
    carriers_of walls_of rising_of rises clear_of distinct_of within demand ◌then◌ demand_each in_turn in_grid carrier_in_grid start_of count_of
    docks_of dock_of is_dock part each docks_in_grid docks_clear unrepeated unrepeated_of one_each with_one_dock
    clear_of_walls among unshared task_of respond_of plan_of sequential blockers_of answers_above left_after tried if_none views_without set_of in_order
    seen_as
    seen_from seen parked cell_at neighbours near vacant every standable allowed start_clear cost cheaper cheapest holds ended val onward
    walk walk_from best
cases =
    record {
      by_one = refl;
      by_two = refl;
      by_stranded = refl;
      by_walls = refl;
      by_horizon = refl;
      downwards = refl;
      upwards = refl;
      has_route = refl;
      no_carrier = refl;
      no_first = refl;
      too_short = refl;
    }
