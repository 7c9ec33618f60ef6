-- The table of document 01's starred floors, computed from the definitions.
use Prim.Native.Nat.{ℕ}
use native.Mathlib.Omega.{arith}
use mathlib.Core.Path.{◌≡◌, refl, ◌∙◌}
use mathlib.Core.List.{[]}
use Rattle.laws.specs.Verdict.{passed, refused, ◌then◌, demand, in_turn, demand_each, passes, ◌gives◌, ◌then_answers◌, when_passed, each}
use Rattle.floor.specs.Checks.{within, limits_of, long_enough, lent_of, start_of, count_of, docks_of, dock_of, is_dock, in_grid, carrier_in_grid}
use Rattle.floor.specs.Checks.{carriers_of, walls_of}
use Rattle.floor.specs.Checks.{docks_in_grid, docks_clear, unrepeated, unrepeated_of}
use Rattle.laws.specs.Memory.{part}
use Rattle.floor.specs.OneDock.{one_each, with_one_dock, earlier_limits, earlier_inside, both_inside, earlier_carriers, earlier_walls}
use Rattle.floor.specs.OneDock.{earlier_rising, both_clear, earlier_clear, neither_shared, earlier_distinct, earlier_check}
use Rattle.floor.specs.Checks.{rises, rising_of, among, clear_of_walls, clear_of, unshared, distinct_of, places_of, check_of}
use Rattle.route.specs.Route.{cell_at}
use Rattle.route.specs.Moves.{neighbours, near, vacant, every, standable, allowed, start_clear}
use Rattle.route.specs.Search.{cost, cheaper, cheapest, holds, ended, val, onward, walk, walk_from, best}
use Rattle.route.specs.Sequential.{sequential}
use Rattle.route.specs.Arrival.{settled, arrival_of}
use Rattle.records.specs.Seen.{parked, seen_as, seen_from, seen}
use Rattle.search.specs.Task.{task_of}
use Rattle.fields.specs.Field.{column, field_of, number, number_at}
use Rattle.fields.specs.Form.{field_form, line_form, counted_length, past_counted, column_past}
use Rattle.sheet.specs.Text.{line_of, lines_of, head_line, cell_numbers, carrier_line, wall_line, sheet_of}
use Rattle.sheet.specs.Form.{carrier_column}
use Rattle.sheet.specs.Read.{form_of, sheet_verdict}
use Rattle.printing.specs.Text.{answer_line, first_line, none_word, none_line, routes_text, refusal_line}
use Rattle.printing.specs.Print.{print_of, routes_of}
use Rattle.printing.proofs.Theorems.{theorems}
use Rattle.planner.specs.Claims.{answer_at, plan_unseen}
use Rattle.planner.specs.Plan.{respond_of, plan_of, failing_from, failing_of}
use Rattle.reference.specs.Ranges.{below, joined, update, update_pair}
use Rattle.reference.specs.State.{fresh, views, tick}
use Rattle.reference.specs.Step.{plan, deliver, is_there, has_capacity, is_empty, waits_for, is_open, same_cells, same_answer}
use Rattle.reference.specs.Ranking.{deliveries_from, ranking, none_open, is_silent}
use Rattle.reference.specs.Take.{is_news, send, plan_as, oldest, newer, deliver_to, effect, counted, after_step, step_answer}
use Rattle.reference.specs.Run.{run, took_first, skipped_first}
use Rattle.reference.specs.Ending.{any_left, ends_as, ending}
use Rattle.reference.specs.Table.{is_named, steps_of, lent_enough, all_named, open_single, verdict}
use Rattle.reference.specs.Calls.{reply, state_after, after_call, replies, after}
use Rattle.reference.specs.Quiescent.{ceiling}
use Rattle.encoding.specs.Places.{pairs_before, state_size}
use Rattle.encoding.specs.Numbers.{delivery_of, asked_by}
use Rattle.reference.specs.Meeting.{meet, swapped}
use Rattle.encoding.specs.Ranges.{WithinRanges}
use Rattle.encoding.specs.Calls.{machine_of}
use Rattle.encoding.proofs.ExactLaws.{fresh_fits}
use Rattle.demands.specs.Shorter.{drop_last, without_last}
use Rattle.demands.specs.Floors.{docks_in, sides, full}
use Rattle.demands.specs.Texts.{sheet2, routes2, routes3, refused11, sheet2short, routes2short}
use Rattle.demands.specs.Cases.{Cases}

-- The texts: what a floor's plan prints, and what the empty sheet does.
accepted_2 : check_of (sides 4) [] ≡ passed
unfolding check_of limits_of within lent_of long_enough places_of carriers_of walls_of rising_of clear_of distinct_of start_of count_of docks_of dock_of
    part each docks_in_grid docks_clear unrepeated unrepeated_of one_each with_one_dock in_grid
    carrier_in_grid rises among clear_of_walls unshared demand ◌then◌ in_turn demand_each
accepted_2 = refl

sheet_2 : sheet_of (sides 4) [] ≡ sheet2
unfolding sheet_of head_line line_of lines_of cell_numbers carrier_line wall_line field_of column start_of count_of docks_of dock_of part one_each
    with_one_dock
sheet_2 = refl

text_2 : print_of (sides 4) [] ≡ routes2
unfolding print_of routes_text first_line answer_line answer_at failing_of failing_from arrival_of settled cell_at
    count_of docks_of is_dock part one_each with_one_dock
    line_of lines_of field_of column plan_of sequential respond_of seen seen_from seen_as parked task_of start_of among
    neighbours near vacant every standable allowed start_clear cost cheaper cheapest holds ended val onward walk walk_from best
text_2 = refl

printed_2 : routes_of sheet2 ≡ routes2
printed_2 = rw (← sheet_2) (theorems.routes_of_sheet (sides 4) [] accepted_2 ∙ text_2)

printed_3 : print_of (sides 3) [] ≡ routes3
unfolding print_of routes_text first_line answer_line none_word none_line answer_at failing_of failing_from arrival_of settled cell_at
    count_of docks_of is_dock part one_each with_one_dock
    line_of lines_of field_of column plan_of sequential respond_of seen seen_from seen_as parked task_of start_of among
    neighbours near vacant every standable allowed start_clear cost cheaper cheapest holds ended val onward walk walk_from best
printed_3 = refl

refused_11 : sheet_verdict [] ≡ refused 1 0
unfolding sheet_verdict form_of line_form field_form demand ◌then◌ in_turn
refused_11 = refl

printed_11 : routes_of [] ≡ refused11
unfolding refusal_line line_of field_of column
printed_11 = theorems.routes_refused [] 1 0 refused_11

-- The sheet without carrier 2, and its routes.
dropped_sheet : without_last 2 sheet2 ≡ sheet2short
unfolding without_last carrier_column column_past past_counted counted_length number_at number field_of column
dropped_sheet = refl

short_accepted : check_of (drop_last (sides 4)) [] ≡ passed
unfolding check_of limits_of within lent_of long_enough places_of carriers_of walls_of rising_of clear_of distinct_of start_of count_of docks_of dock_of
    part each docks_in_grid docks_clear unrepeated unrepeated_of one_each with_one_dock in_grid
    carrier_in_grid rises among clear_of_walls unshared demand ◌then◌ in_turn demand_each drop_last
short_accepted = refl

short_sheet : sheet_of (drop_last (sides 4)) [] ≡ sheet2short
unfolding sheet_of head_line line_of lines_of cell_numbers carrier_line wall_line field_of column start_of count_of docks_of dock_of part one_each
    with_one_dock drop_last
short_sheet = refl

short_text : print_of (drop_last (sides 4)) [] ≡ routes2short
unfolding print_of routes_text first_line answer_line answer_at failing_of failing_from arrival_of settled cell_at
    count_of docks_of is_dock part one_each with_one_dock drop_last
    line_of lines_of field_of column plan_of sequential respond_of seen seen_from seen_as parked task_of start_of among
    neighbours near vacant every standable allowed start_clear cost cheaper cheapest holds ended val onward walk walk_from best
short_text = refl

dropped_printed : routes_of sheet2short ≡ routes2short
dropped_printed = rw (← short_sheet) (theorems.routes_of_sheet (drop_last (sides 4)) [] short_accepted ∙ short_text)

full_within : WithinRanges (sides 4) full
full_within =
    record {
      counted = omega arith;
      channels = (fresh_fits (sides 4)).channels;
      parts = record {
        answers = (fresh_fits (sides 4)).parts.answers;
        messages = (fresh_fits (sides 4)).parts.messages;
        seen = (fresh_fits (sides 4)).parts.seen;
      };
    }

-- A plan of another carrier, and a delivery, is another step.
other_plan : plan 0 ≡ plan 1 → ⊥
other_plan e = let z : ◌≡◌ {A = ℕ} 0 1 = cc in omega arith

other_kind : plan 1 ≡ deliver 1 2 → ⊥
other_kind e = let z : ◌≡◌ {A = ℕ} 0 1 = cc in omega arith

pub cases : Cases
unfolding
    ◌then◌ demand in_turn demand_each passes ◌gives◌ ◌then_answers◌ when_passed
    within limits_of long_enough lent_of start_of count_of docks_of dock_of is_dock part docks_in_grid docks_clear unrepeated unrepeated_of
    one_each with_one_dock in_grid carrier_in_grid carriers_of walls_of rises rising_of
    among clear_of_walls clear_of unshared distinct_of places_of check_of
    cell_at neighbours near vacant every standable allowed start_clear cost cheaper cheapest holds ended val onward walk walk_from best
    sequential settled arrival_of task_of seen seen_from seen_as parked respond_of plan_of plan_unseen failing_from failing_of
    below joined each update update_pair fresh views tick is_there has_capacity is_empty waits_for is_open same_cells same_answer
    deliveries_from ranking none_open is_silent is_news send plan_as oldest newer deliver_to effect counted after_step step_answer
    run took_first skipped_first any_left ends_as ending is_named steps_of lent_enough all_named open_single verdict
    reply state_after after_call replies after ceiling pairs_before state_size delivery_of asked_by machine_of meet drop_last
    docks_in earlier_limits earlier_inside both_inside earlier_carriers earlier_walls earlier_rising both_clear earlier_clear neither_shared
    earlier_distinct earlier_check
cases =
    record {
      accepted_1 = refl;
      answers_1 = refl;
      arrival_1 = refl;
      failing_1 = refl;
      accepted_2 = refl;
      answers_2 = refl;
      arrivals_2 = (refl, refl);
      failing_2 = refl;
      sheet_2 = sheet_2;
      printed_2 = printed_2;
      accepted_3 = refl;
      answers_3 = refl;
      failing_3 = refl;
      printed_3 = printed_3;
      replies_4 = refl;
      first_4 = refl;
      answers_4 = refl;
      taken_4 = refl;
      silent_4 = refl;
      run_4 = refl;
      replies_5 = refl;
      answers_5 = refl;
      taken_5 = refl;
      silent_5 = refl;
      reply_6 = refl;
      state_6 = refl;
      reply_7 = refl;
      reply_8 = refl;
      accepted_9 = refl;
      replies_9 = refl;
      accepted_10 = refl;
      horizon_10 = refl;
      carriers_10 = refl;
      refused_11 = refused_11;
      printed_11 = printed_11;
      reply_12 = refl;
      reply_named = refl;
      reply_short = refl;
      accepted_kept = refl;
      replies_kept = refl;
      reply_passed = refl;
      accepted_deep = refl;
      replies_deep = refl;
      accepted_walled = refl;
      answers_walled = refl;
      accepted_stranded = (refl, refl);
      answers_stranded = refl;
      unseen_stranded = refl;
      answers_goal = refl;
      accepted_corridor = refl;
      answers_corridor = refl;
      accepted_round = refl;
      answers_round = refl;
      first_round = refl;
      replies_round = refl;
      heard_round = refl;
      accepted_crossed = refl;
      answers_crossed = refl;
      replies_empty = refl;
      replies_early = refl;
      replies_crowded = refl;
      run_crowded = refl;
      open_meeting = (refl, refl);
      meeting = refl;
      planned_first = (refl, refl);
      heard_first = (refl, refl);
      apart_fresh = record { one_open = refl; other_open = refl; different = other_plan; unmet = refl };
      exchanged_fresh = swapped (record { one_open = refl; other_open = refl; different = other_plan; unmet = refl });
      apart_channel = record { one_open = refl; other_open = refl; different = other_kind; unmet = refl };
      pushed_first = refl;
      taken_first = refl;
      channel_pushed = refl;
      channel_taken = refl;
      full_within = full_within;
      full_orders = (refl, refl);
      full_answers = (refl, refl);
      budget_one = (refl, refl);
      dropped_3 = refl;
      dropped_failing = refl;
      dropped_sheet = dropped_sheet;
      dropped_printed = dropped_printed;
      first_matters = refl;
      accepted_behind = (refl, refl);
      answers_behind = refl;
      short_behind = refl;
      first_behind = refl;
      heard_behind = refl;
      answers_in_front = refl;
      accepted_docks = refl;
      answers_docks = refl;
      answers_taken = refl;
      none_left = refl;
      answers_beside = refl;
      arrival_beside = refl;
      arrival_passed = refl;
      dock_twice = refl;
      six_first = refl;
      past_count = refl;
      count_0 = refl;
      count_5 = refl;
      dock_outside = refl;
      dock_on_wall = refl;
      common_earlier = refl;
      common_accepted = refl;
      most_1 = refl;
      most_2 = refl;
      most_3 = refl;
      fresh_due = λ i. refl;
      fresh_planned = λ i. refl;
      fresh_answer = λ i. refl;
      fresh_view = λ i j. refl;
      fresh_channel = λ i j. refl;
      fresh_taken = refl;
    }
