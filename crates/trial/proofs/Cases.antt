-- Cases computed from the definitions: document 01's floor under the three orders, and the refusals of a trial in their order.
use Rattle.std.proofs.Common.{◌≡◌, ℕ, List, [], ◌∷◌, replicate, refl}
use Rattle.laws.specs.Verdict.{Verdict, passed, refused, ◌then◌, demand, in_turn, demand_each, passes, ◌gives◌, when_passed, each}
use Rattle.laws.specs.Memory.{part, put}
use Rattle.floor.specs.declared.Floor.{Floor}
use Rattle.floor.specs.Checks.{within, limits_of, long_enough, lent_of, start_of, count_of, docks_of, dock_of, is_dock, in_grid, carrier_in_grid}
use Rattle.floor.specs.Checks.{carriers_of, walls_of, rises}
use Rattle.floor.specs.Checks.{docks_in_grid, docks_clear, unrepeated, unrepeated_of}
use Rattle.floor.specs.OneDock.{one_each, with_one_dock}
use Rattle.floor.specs.Checks.{rising_of, among, clear_of_walls, clear_of, unshared, distinct_of, places_of, check_of}
use Rattle.route.specs.Route.{cell_at}
use Rattle.route.specs.Moves.{neighbours, near, vacant, every, standable, allowed, start_clear}
use Rattle.route.specs.Search.{cost, cheaper, cheapest, holds, ended, val, onward, walk, walk_from, best}
use Rattle.search.specs.Task.{task_of}
use Rattle.records.specs.Seen.{parked, seen_as, seen_from, seen}
use Rattle.planner.specs.Plan.{respond_of}
use Rattle.reference.specs.Ranges.{below, joined, update, update_pair}
use Rattle.reference.specs.State.{fresh, views, tick}
use Rattle.reference.specs.Step.{is_there, has_capacity, is_empty, waits_for, is_open, same_cells, same_answer}
use Rattle.reference.specs.Take.{is_news, send, plan_as, oldest, newer, deliver_to, effect, counted, after_step, step_answer}
use Rattle.reference.specs.Ranking.{deliveries_from, ranking, none_open, is_silent}
use Rattle.reference.specs.Quiescent.{ceiling}
use Rattle.encoding.specs.Places.{pairs_before, state_size}
use Rattle.encoding.specs.Calls.{machine_of, place_verdict}
use Rattle.orders.specs.Generator.{next_number, drawn_by}
use Rattle.orders.specs.Orders.{places, step_at, open_at, passing, open_places, turn, chosen, start_memory, remembered}
use Rattle.orders.specs.Trial.{next_step, entry_of, reported, try_from, trial}
use Rattle.trial.specs.Report.{number_of, answer_number, report_numbers, report_size}
use Rattle.trial.specs.Entry.{order_by, trial_verdict, trial_of}

-- The floor of document 01's sheet, for a number of carriers: two change sides.
abbrev sides_for : ℕ → Floor
sides_for n =
    with_one_dock
    (record {
      width = 3;
      height = 2;
      horizon = 4;
      depth = 1;
      carriers = n;
      walls = 0;
      starts = 0 ∷ 2 ∷ replicate 6 0;
      goals = 2 ∷ 0 ∷ replicate 6 0;
    })

-- The numbers of a report of that floor.
abbrev report_of : ℕ → ℕ → List ℕ
report_of order seed = report_numbers (trial_of (sides_for 2) [] order seed).report

-- Its refusals; it needs 462 numbers for its state, and 8 for its report.
abbrev checked : ℕ → ℕ → ℕ → Verdict
checked order state lines = trial_verdict (sides_for 2) [] order state lines

record Cases : Type 0 where
  -- Plan 1 and plan 2 are sent, message 1 is delivered to 2, and plan 2 changes its answer.
  in_order_1 : report_of 1 0 ≡ (101 ∷ 1 ∷ 102 ∷ 1 ∷ 212 ∷ 2 ∷ 102 ∷ 1 ∷ [])
  in_order_2 : report_of 2 0 ≡ (101 ∷ 1 ∷ 102 ∷ 1 ∷ 212 ∷ 2 ∷ 102 ∷ 1 ∷ [])
  -- Seed 12345 draws 1337 first: of the two open steps the second.
  in_order_3 : report_of 3 12345 ≡ (102 ∷ 1 ∷ 101 ∷ 1 ∷ 212 ∷ 2 ∷ 102 ∷ 1 ∷ [])
  -- Orders 1 to 3 pass, 0 and 4 are refused, after the floor and both memories.
  order_1 : checked 1 462 8 ≡ passed
  order_3 : checked 3 462 8 ≡ passed
  order_0 : checked 0 462 8 ≡ refused 11 0
  order_4 : checked 4 462 8 ≡ refused 11 0
  short_state : checked 0 461 8 ≡ refused 9 0
  short_report : checked 0 462 7 ≡ refused 9 0
  no_carrier : trial_verdict (sides_for 0) [] 0 0 0 ≡ refused 2 5

cases : Cases
unfolding
    seen seen_from seen_as parked
    ◌then◌ demand in_turn demand_each passes ◌gives◌ when_passed put
    within limits_of long_enough lent_of start_of count_of docks_of dock_of is_dock part docks_in_grid docks_clear unrepeated unrepeated_of
    one_each with_one_dock in_grid carrier_in_grid carriers_of walls_of rises rising_of
    among clear_of_walls clear_of unshared distinct_of places_of check_of
    cell_at neighbours near vacant every standable allowed start_clear cost cheaper cheapest holds ended val onward walk walk_from best
    task_of respond_of
    below joined each update update_pair fresh views tick is_there has_capacity is_empty waits_for is_open same_cells same_answer
    deliveries_from ranking none_open is_silent is_news send plan_as oldest newer deliver_to effect counted after_step step_answer
    ceiling pairs_before state_size machine_of place_verdict next_number drawn_by
    places step_at open_at passing open_places turn chosen start_memory remembered next_step entry_of reported try_from trial
    number_of answer_number report_numbers report_size order_by trial_verdict trial_of
cases =
    record {
      in_order_1 = refl;
      in_order_2 = refl;
      in_order_3 = refl;
      order_1 = refl;
      order_3 = refl;
      order_0 = refl;
      order_4 = refl;
      short_state = refl;
      short_report = refl;
      no_carrier = refl;
    }
