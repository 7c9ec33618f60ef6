-- Document 01's starred floors ('Floors to try') as one table about the definitions, with floors 10 to 12 and cases beside them; then
-- those of document 02, slips 2, 3, 5, 9 and 10.
use Rattle.std.specs.Prelude.{ℕ, true, false, [], ◌∷◌, ◌≡◌}
use Rattle.laws.specs.Verdict.{passed, refused, value, refusal}
use Rattle.floor.specs.Checks.{check_of}
use Rattle.floor.specs.OneDock.{earlier_check, with_one_dock}
use Rattle.route.specs.Route.{none, unheard}
use Rattle.route.specs.Arrival.{arrival_of}
use Rattle.sheet.specs.Text.{sheet_of}
use Rattle.sheet.specs.Read.{sheet_verdict}
use Rattle.planner.specs.Plan.{plan_of, failing_of}
use Rattle.planner.specs.Claims.{plan_unseen}
use Rattle.printing.specs.Print.{print_of, routes_of}
use Rattle.reference.specs.Ranges.{below}
use Rattle.reference.specs.State.{fresh}
use Rattle.reference.specs.Step.{plan, deliver, is_open}
use Rattle.reference.specs.Take.{kept, sent, delivered}
use Rattle.reference.specs.Ranking.{is_silent}
use Rattle.reference.specs.Ending.{silent, spent, ended}
use Rattle.reference.specs.Table.{no_step, single, run_of}
use Rattle.reference.specs.Calls.{stepped, ran, replies, after}
use Rattle.reference.specs.Quiescent.{ceiling}
use Rattle.reference.specs.Meeting.{meet, Apart, Exchanged}
use Rattle.encoding.specs.Ranges.{WithinRanges}
use Rattle.encoding.specs.Calls.{machine_of}
use Rattle.demands.specs.Shorter.{drop_last, without_last}
use Rattle.demands.specs.Floors.{padded, floor_with, cell, sides, two, rows, three, walled, route_of, answers2}
use Rattle.demands.specs.Floors.{walled_off, corridor, shut_goal, crossed, carrier_behind, in_front, counted_of, docked_of, common, crowded}
use Rattle.demands.specs.Floors.{singles, running, calls4, calls5, longest, heard_again, full}
use Rattle.demands.specs.Texts.{sheet2, routes2, routes3, refused11, sheet2short, routes2short}

pub record Cases : Type 0 where
  -- 1: one cell, one carrier; arrival 0.
  pub accepted_1 : check_of cell [] ≡ passed
  pub answers_1 : plan_of cell [] ≡ route_of [] ∷ []
  pub arrival_1 : arrival_of (padded 64 []) 4 ≡ 0
  pub failing_1 : failing_of (plan_of cell []) ≡ 0
  -- 2: the sheet; arrivals 2 and 4.
  pub accepted_2 : check_of (sides 4) [] ≡ passed
  pub answers_2 : plan_of (sides 4) [] ≡ answers2
  pub arrivals_2 : (arrival_of (padded 64 (0 ∷ 1 ∷ 2 ∷ 2 ∷ 2 ∷ [])) 4 ≡ 2) × (arrival_of (padded 64 (2 ∷ 5 ∷ 4 ∷ 1 ∷ 0 ∷ [])) 4 ≡ 4)
  pub failing_2 : failing_of (plan_of (sides 4) []) ≡ 0
  pub sheet_2 : sheet_of (sides 4) [] ≡ sheet2
  pub printed_2 : routes_of sheet2 ≡ routes2
  -- 3: with horizon 3 carrier 2 has none and is the failing carrier.
  pub accepted_3 : check_of (sides 3) [] ≡ passed
  pub answers_3 : plan_of (sides 3) [] ≡ route_of (0 ∷ 1 ∷ 2 ∷ 2 ∷ []) ∷ none ∷ []
  pub failing_3 : failing_of (plan_of (sides 3) []) ≡ 2
  pub printed_3 : print_of (sides 3) [] ≡ routes3
  -- 4: carrier 2 plans first, hears of carrier 1, and plans again; taken 4, silent.
  pub replies_4 : replies two fresh calls4 ≡
      value (stepped sent) ∷ value (stepped sent) ∷ value (stepped delivered) ∷ value (stepped sent) ∷ []
  pub first_4 : (after two fresh (singles (102 ∷ []))).answer 1 ≡ route_of (2 ∷ 1 ∷ [])
  pub answers_4 : below 2 (after two fresh calls4).answer ≡ answers2
  pub taken_4 : (after two fresh calls4).taken ≡ 4
  pub silent_4 : is_silent two (after two fresh calls4) ≡ true
  pub run_4 : replies two fresh (running (102 ∷ 101 ∷ 212 ∷ 102 ∷ []) 9) ≡ value (ran 4 silent) ∷ []
  -- 5: carrier 2 plans once it has heard; taken 3, silent, same routes.
  pub replies_5 : replies two fresh calls5 ≡ value (stepped sent) ∷ value (stepped delivered) ∷ value (stepped sent) ∷ []
  pub answers_5 : below 2 (after two fresh calls5).answer ≡ answers2
  pub taken_5 : (after two fresh calls5).taken ≡ 3
  pub silent_5 : is_silent two (after two fresh calls5) ≡ true
  -- 6: a delivery from an empty channel: 12 with the addressee, carrier 2; state unchanged.
  pub reply_6 : replies two fresh (singles (212 ∷ [])) ≡ refusal 12 2 ∷ []
  pub state_6 : after two fresh (singles (212 ∷ [])) ≡ fresh
  -- 7: a run with budget 0 and one open step: taken 0, spent.
  pub reply_7 : replies two fresh (running (101 ∷ []) 0) ≡ value (ran 0 spent) ∷ []
  -- 8: a run of an empty list: taken 0, ended.
  pub reply_8 : replies two fresh (running [] 0) ≡ value (ran 0 ended) ∷ []
  -- 9: three carriers, depth 1: the channel from carrier 2 to carrier 3 is full, 13 with the receiver.
  pub accepted_9 : check_of (three 1) [] ≡ passed
  pub replies_9 : replies (machine_of (three 1) []) fresh calls4 ≡
      value (stepped sent) ∷ value (stepped sent) ∷ value (stepped delivered) ∷ refusal 13 3 ∷ []
  -- 10: horizon 63 is accepted, 64 is not; nor are 0 carriers.
  pub accepted_10 : check_of (sides 63) [] ≡ passed
  pub horizon_10 : check_of (sides 64) [] ≡ refused 2 3
  pub carriers_10 : check_of (floor_with 3 2 4 1 0 [] []) [] ≡ refused 2 5
  -- 11: an empty sheet: 1, offset 0.
  pub refused_11 : sheet_verdict [] ≡ refused 1 0
  pub printed_11 : routes_of [] ≡ refused11
  -- 12: a delivery from a carrier to itself is no step.
  pub reply_12 : replies two fresh (singles (222 ∷ [])) ≡ refusal 7 0 ∷ []
  -- 7 in a run has the place of its first bad step, also past the budget; 9 comes first.
  pub reply_named : replies two fresh (running (101 ∷ 103 ∷ 0 ∷ []) 0) ≡ refusal 7 1 ∷ []
  pub reply_short : replies two fresh (run_of 461 (no_step ∷ []) 1 ∷ single 461 no_step ∷ single 462 no_step ∷ []) ≡
      refusal 9 0 ∷ refusal 9 0 ∷ refusal 7 0 ∷ []
  -- A plan that is not the first and has the same answer is 'kept': the carriers of this floor do not meet.
  pub accepted_kept : check_of rows [] ≡ passed
  pub replies_kept : replies (machine_of rows []) fresh calls4 ≡
      value (stepped sent) ∷ value (stepped sent) ∷ value (stepped delivered) ∷ value (stepped kept) ∷ []
  -- A run passes over what is not open, and stops at its budget.
  pub reply_passed : replies two fresh (running (212 ∷ 101 ∷ 101 ∷ 102 ∷ []) 1) ≡ value (ran 1 spent) ∷ []
  -- With depth 2 the channel that is full in 9 has capacity for a second message.
  pub accepted_deep : check_of (three 2) [] ≡ passed
  pub replies_deep : replies (machine_of (three 2) []) fresh calls4 ≡
      value (stepped sent) ∷ value (stepped sent) ∷ value (stepped delivered) ∷ value (stepped sent) ∷ []
  -- A wall in cell 1 is gone round.
  pub accepted_walled : check_of walled (1 ∷ []) ≡ passed
  pub answers_walled : plan_of walled (1 ∷ []) ≡ route_of (0 ∷ 3 ∷ 4 ∷ 5 ∷ 2 ∷ []) ∷ []
  -- Document 02, slip 2. All stranded: carrier 1 is walled off and stays in carrier 2's way; were none nowhere, 2 would go through it.
  pub accepted_stranded : (check_of (walled_off 2) (3 ∷ []) ≡ passed) × (check_of (walled_off 1) (3 ∷ []) ≡ passed)
  pub answers_stranded : plan_of (walled_off 2) (3 ∷ []) ≡ none ∷ none ∷ []
  pub unseen_stranded : plan_unseen (walled_off 2) (3 ∷ []) ≡ none ∷ route_of (0 ∷ 1 ∷ 2 ∷ 2 ∷ 2 ∷ []) ∷ []
  -- None in the goal of the carrier below: it has none too.
  pub answers_goal : plan_of (walled_off 1) (3 ∷ []) ≡ none ∷ none ∷ []
  -- None in the middle of a corridor: the carrier below has none, though it would have a way to its goal.
  pub accepted_corridor : check_of corridor [] ≡ passed
  pub answers_corridor : plan_of corridor [] ≡ route_of (3 ∷ 3 ∷ 3 ∷ []) ∷ none ∷ none ∷ []
  -- None is gone round. On the radio it is heard late: carrier 2 plans through carrier 1's start first, and round it once it has heard.
  pub accepted_round : check_of shut_goal (2 ∷ 7 ∷ []) ≡ passed
  pub answers_round : plan_of shut_goal (2 ∷ 7 ∷ []) ≡ none ∷ route_of (0 ∷ 4 ∷ 5 ∷ 6 ∷ 6 ∷ []) ∷ []
  pub first_round : (after (machine_of shut_goal (2 ∷ 7 ∷ [])) fresh (singles (102 ∷ []))).answer 1 ≡ route_of (0 ∷ 1 ∷ 5 ∷ 6 ∷ 6 ∷ [])
  pub replies_round : replies (machine_of shut_goal (2 ∷ 7 ∷ [])) fresh calls4 ≡
      value (stepped sent) ∷ value (stepped sent) ∷ value (stepped delivered) ∷ value (stepped sent) ∷ []
  pub heard_round : below 2 (after (machine_of shut_goal (2 ∷ 7 ∷ [])) fresh calls4).answer ≡ none ∷ route_of (0 ∷ 4 ∷ 5 ∷ 6 ∷ 6 ∷ []) ∷ []
  -- A carrier above crosses a stranded one below, in cell 1 at beat 1.
  pub accepted_crossed : check_of crossed [] ≡ passed
  pub answers_crossed : plan_of crossed [] ≡ route_of (0 ∷ 1 ∷ 2 ∷ []) ∷ none ∷ []
  -- Document 02, slip 3. 12 has the addressee for its place, whoever is the sender.
  pub replies_empty : replies (machine_of (three 1) []) fresh (singles (212 ∷ 213 ∷ 223 ∷ [])) ≡
      refusal 12 2 ∷ refusal 12 3 ∷ refusal 12 3 ∷ []
  -- Carrier 1 is no longer due and its channel is full: 8.
  pub replies_early : replies two fresh (singles (101 ∷ 101 ∷ [])) ≡ value (stepped sent) ∷ refusal 8 0 ∷ []
  -- All due and every channel full: 13 has the smallest receiver for its place, and a run passes over.
  pub replies_crowded : replies (machine_of (three 1) []) crowded (singles (101 ∷ 102 ∷ [])) ≡ refusal 13 2 ∷ refusal 13 3 ∷ []
  pub run_crowded : replies (machine_of (three 1) []) crowded (running (101 ∷ 102 ∷ []) 9) ≡ value (ran 0 ended) ∷ []
  -- Document 02, slip 5. After plan 1, plan 2 and deliver 1 to 2 are both open. They meet, and the two orders lead to different states.
  pub open_meeting : (is_open two (after two fresh (singles (101 ∷ []))) (plan 1) ≡ true)
      × (is_open two (after two fresh (singles (101 ∷ []))) (deliver 0 1) ≡ true)
  pub meeting : meet (plan 1) (deliver 0 1) ≡ true
  pub planned_first : ((after two fresh (singles (101 ∷ 102 ∷ 212 ∷ []))).answer 1 ≡ route_of (2 ∷ 1 ∷ []))
      × ((after two fresh (singles (101 ∷ 102 ∷ 212 ∷ []))).due 1 ≡ true)
  pub heard_first : ((after two fresh calls5).answer 1 ≡ route_of (2 ∷ 5 ∷ 4 ∷ 1 ∷ 0 ∷ [])) × ((after two fresh calls5).due 1 ≡ false)
  -- The two plans stand apart when fresh, and may be exchanged in a history.
  pub apart_fresh : Apart two fresh (plan 0) (plan 1)
  pub exchanged_fresh : Exchanged two fresh (plan 0 ∷ (plan 1 ∷ (deliver 0 1 ∷ []))) (plan 1 ∷ (plan 0 ∷ (deliver 0 1 ∷ [])))
  -- A message is put on the channel from 2 to 3 and another taken from it, in either order.
  pub apart_channel : Apart (machine_of (three 2) []) (after (machine_of (three 2) []) fresh (singles heard_again)) (plan 1) (deliver 1 2)
  pub pushed_first : replies (machine_of (three 2) []) (after (machine_of (three 2) []) fresh (singles heard_again)) (singles (102 ∷ 223 ∷ []))
      ≡ value (stepped sent) ∷ value (stepped delivered) ∷ []
  pub taken_first : replies (machine_of (three 2) []) (after (machine_of (three 2) []) fresh (singles heard_again)) (singles (223 ∷ 102 ∷ []))
      ≡ value (stepped delivered) ∷ value (stepped sent) ∷ []
  pub channel_pushed : (after (machine_of (three 2) []) (after (machine_of (three 2) []) fresh (singles heard_again)) (singles (102 ∷ 223 ∷ []))
      ).chan 2 1 ≡ route_of (2 ∷ 5 ∷ 4 ∷ 1 ∷ 0 ∷ []) ∷ []
  pub channel_taken : (after (machine_of (three 2) []) (after (machine_of (three 2) []) fresh (singles heard_again)) (singles (223 ∷ 102 ∷ []))
      ).chan 2 1 ≡ route_of (2 ∷ 5 ∷ 4 ∷ 1 ∷ 0 ∷ []) ∷ []
  -- At the count 999,999, which stays: a state within the ranges, and both orders of plan 1 and plan 2.
  pub full_within : WithinRanges (sides 4) full
  pub full_orders : ((after two full (singles (101 ∷ 102 ∷ []))).taken ≡ 999999)
      × ((after two full (singles (102 ∷ 101 ∷ []))).taken ≡ 999999)
  pub full_answers : (below 2 (after two full (singles (101 ∷ 102 ∷ []))).answer
      ≡ route_of (0 ∷ 1 ∷ 2 ∷ 2 ∷ 2 ∷ []) ∷ route_of (2 ∷ 1 ∷ []) ∷ [])
      × (below 2 (after two full (singles (102 ∷ 101 ∷ []))).answer ≡ route_of (0 ∷ 1 ∷ 2 ∷ 2 ∷ 2 ∷ []) ∷ route_of (2 ∷ 1 ∷ []) ∷ [])
  -- With budget for one, the two orders of a run differ.
  pub budget_one : ((after two fresh (running (101 ∷ 102 ∷ []) 1)).planned 0 ≡ true)
      × ((after two fresh (running (102 ∷ 101 ∷ []) 1)).planned 0 ≡ false)
  -- Without its last carrier the floor of three is that of document 01's sheet; a failing carrier that is dropped fails no more.
  pub dropped_3 : plan_of (drop_last (three 1)) [] ≡ answers2
  pub dropped_failing : failing_of (plan_of (drop_last (sides 3)) []) ≡ 0
  pub dropped_sheet : without_last 2 sheet2 ≡ sheet2short
  pub dropped_printed : routes_of sheet2short ≡ routes2short
  -- Without the first carrier the second would not go round it.
  pub first_matters : plan_of (floor_with 3 2 4 1 0 (2 ∷ []) (0 ∷ [])) [] ≡ route_of (2 ∷ 1 ∷ []) ∷ []
  -- Document 02, slip 9. Carrier 2 enters the cell that carrier 1 leaves a beat later; with horizon 1 it has none. The radio comes to the
  -- same, though carrier 2 plans to go at once before it has heard.
  pub accepted_behind : (check_of (carrier_behind 2) [] ≡ passed) × (check_of (in_front 2) [] ≡ passed)
  pub answers_behind : plan_of (carrier_behind 2) [] ≡ route_of (1 ∷ 2 ∷ 2 ∷ []) ∷ route_of (0 ∷ 0 ∷ 1 ∷ []) ∷ []
  pub short_behind : plan_of (carrier_behind 1) [] ≡ route_of (1 ∷ 2 ∷ []) ∷ none ∷ []
  pub first_behind : (after (machine_of (carrier_behind 2) []) fresh (singles (102 ∷ []))).answer 1 ≡ route_of (0 ∷ 1 ∷ 1 ∷ [])
  pub heard_behind : below 2 (after (machine_of (carrier_behind 2) []) fresh calls4).answer ≡
      route_of (1 ∷ 2 ∷ 2 ∷ []) ∷ route_of (0 ∷ 0 ∷ 1 ∷ []) ∷ []
  -- Nor may carrier 2 leave a cell in the beat in which carrier 1 enters it.
  pub answers_in_front : plan_of (in_front 2) [] ≡ route_of (0 ∷ 1 ∷ 1 ∷ []) ∷ none ∷ []
  -- Document 02, slip 10. Docks in common: each carrier ends at the one that is nearer.
  pub accepted_docks : check_of (docked_of 0 (0 ∷ 3 ∷ []) ((2 ∷ 5 ∷ []) ∷ (2 ∷ 5 ∷ []) ∷ [])) [] ≡ passed
  pub answers_docks : plan_of (docked_of 0 (0 ∷ 3 ∷ []) ((2 ∷ 5 ∷ []) ∷ (2 ∷ 5 ∷ []) ∷ [])) [] ≡
      route_of (0 ∷ 1 ∷ 2 ∷ 2 ∷ 2 ∷ []) ∷ route_of (3 ∷ 4 ∷ 5 ∷ 5 ∷ 5 ∷ []) ∷ []
  -- The nearer dock is taken, and the farther one is gone to; both are taken, and the third carrier has none.
  pub answers_taken : plan_of (docked_of 0 (1 ∷ 0 ∷ []) ((1 ∷ []) ∷ (1 ∷ 5 ∷ []) ∷ [])) [] ≡
      route_of (1 ∷ 1 ∷ 1 ∷ 1 ∷ 1 ∷ []) ∷ route_of (0 ∷ 3 ∷ 4 ∷ 5 ∷ 5 ∷ []) ∷ []
  pub none_left : plan_of (docked_of 0 (1 ∷ 5 ∷ 0 ∷ []) ((1 ∷ []) ∷ (5 ∷ []) ∷ (1 ∷ 5 ∷ []) ∷ [])) [] ≡
      route_of (1 ∷ 1 ∷ 1 ∷ 1 ∷ 1 ∷ []) ∷ route_of (5 ∷ 5 ∷ 5 ∷ 5 ∷ 5 ∷ []) ∷ none ∷ []
  -- Docks beside each other: a carrier stays at the first that it comes to, also where the other has the smaller number.
  pub answers_beside : plan_of (docked_of 0 (5 ∷ []) ((1 ∷ 2 ∷ []) ∷ [])) [] ≡ route_of (5 ∷ 2 ∷ 2 ∷ 2 ∷ 2 ∷ []) ∷ []
  pub arrival_beside : arrival_of (padded 64 (5 ∷ 2 ∷ 2 ∷ 2 ∷ 2 ∷ [])) 4 ≡ 1
  -- A dock that is passed on the way to another is no arrival.
  pub arrival_passed : arrival_of (padded 64 (0 ∷ 1 ∷ 2 ∷ 2 ∷ 2 ∷ [])) 4 ≡ 2
  -- A dock twice: 17 with the carrier, after 6 and not where the second is past the count. Counts of 0 and 5, and a later dock outside the
  -- grid: 3. A later dock on a wall: 5.
  pub dock_twice : check_of (docked_of 0 (0 ∷ 3 ∷ []) ((2 ∷ []) ∷ (5 ∷ 4 ∷ 5 ∷ []) ∷ [])) [] ≡ refused 17 2
  pub six_first : check_of (docked_of 0 (0 ∷ 0 ∷ []) ((2 ∷ 2 ∷ []) ∷ (5 ∷ []) ∷ [])) [] ≡ refused 6 2
  pub past_count : check_of (counted_of 0 (0 ∷ []) (2 ∷ []) ((2 ∷ 5 ∷ 5 ∷ 9 ∷ []) ∷ [])) [] ≡ passed
  pub count_0 : check_of (counted_of 0 (0 ∷ 3 ∷ []) (1 ∷ 0 ∷ []) ((2 ∷ []) ∷ (5 ∷ []) ∷ [])) [] ≡ refused 3 2
  pub count_5 : check_of (counted_of 0 (0 ∷ []) (5 ∷ []) ((1 ∷ 2 ∷ 3 ∷ 4 ∷ []) ∷ [])) [] ≡ refused 3 1
  pub dock_outside : check_of (docked_of 0 (0 ∷ []) ((2 ∷ 6 ∷ []) ∷ [])) [] ≡ refused 3 1
  pub dock_on_wall : check_of (docked_of 1 (0 ∷ []) ((2 ∷ 4 ∷ []) ∷ [])) (4 ∷ []) ≡ refused 5 1
  -- A goal in common is refused with 6 by document 01, and is accepted with docks.
  pub common_earlier : earlier_check common [] ≡ refused 6 2
  pub common_accepted : check_of (with_one_dock common) [] ≡ passed
  -- The ceiling is reached, by one, two and three carriers.
  pub most_1 : (after (machine_of cell []) fresh (singles (101 ∷ []))).taken ≡ ceiling 1
  pub most_2 : (after two fresh calls4).taken ≡ ceiling 2
  pub most_3 : (after (machine_of (three 1) []) fresh longest).taken ≡ ceiling 3
  -- The fresh state: all due, none planned, answers none, views not heard, channels empty, count 0.
  pub fresh_due : (i : ℕ) → fresh.due i ≡ true
  pub fresh_planned : (i : ℕ) → fresh.planned i ≡ false
  pub fresh_answer : (i : ℕ) → fresh.answer i ≡ none
  pub fresh_view : (i j : ℕ) → fresh.view i j ≡ unheard
  pub fresh_channel : (i j : ℕ) → fresh.chan i j ≡ []
  pub fresh_taken : fresh.taken ≡ 0
