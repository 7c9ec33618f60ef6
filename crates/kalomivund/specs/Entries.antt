-- The word that each exported function answers, and what it leaves in lent memory, from the definitions of the entry that it calls.
use Rattle.std.specs.Prelude.{ℕ, List, ◌++◌, length, drop}
use Rattle.laws.specs.Memory.{put}
use Rattle.floor.specs.declared.Floor.{Floor}
use Rattle.laws.specs.Verdict.{Verdict, ◌then◌, Outcome, ◌gives◌, ◌then_answers◌, when_passed}
use Rattle.floor.specs.Checks.{check_of, limits_of, long_enough}
use Rattle.route.specs.Route.{Answer}
use Rattle.sheet.specs.Text.{sheet_length}
use Rattle.sheet.specs.Values.{floor_at, walls_at}
use Rattle.sheet.specs.Read.{read_verdict, write_verdict, write_sheet}
use Rattle.conflict.specs.Entry.{conflict_outcome}
use Rattle.search.specs.Search.{search_of}
use Rattle.blockers.specs.Entry.{blockers_outcome, blockers_memory}
use Rattle.printing.specs.Print.{routes_outcome, routes_memory}
use Rattle.lengths.specs.Figures.{lengths_of}
use Rattle.planner.specs.Answers.{plan_result}
use Rattle.planner.specs.Records.{plan_memory}
use Rattle.encoding.specs.Calls.{place_verdict, fresh_memory, reply_to, memory_after, single_call, run_call}
use Rattle.machine.specs.Ceiling.{most_steps}
use Rattle.trial.specs.Entry.{trial_outcome, state_tried, report_tried}
use Rattle.lister.specs.Entry.{rank_outcome, report_listed}
use Rattle.legality.specs.Entry.{record_outcome, arrival_outcome}
use Rattle.abi.specs.Word.{Done, word_of, of_number}
use Rattle.abi.specs.Record.{floor_of, numbers_of, record_lent}
use Rattle.kalomivund.specs.Answers.{of_search, route_stored, figure_list, of_reply, of_rank, of_conflict, of_record}

-- The word of a call with a floor record of enough numbers; 9, 0 of one with fewer.
unfoldable pub word_for : List ℕ → Outcome Done → ℕ
word_for xs x = word_of (record_lent xs then_answers x)

-- Memory after a call with a floor record of enough numbers; as it was with fewer.
unfoldable pub stored_for : List ℕ → List ℕ → List ℕ → List ℕ
stored_for xs new old = when_passed (record_lent xs) new old

-- Reading a sheet into a record and wall memory, of each of which a number of numbers is lent: the sheet's refusals, then 9 for either.
unfoldable pub read_lent : List ℕ → ℕ → ℕ → Verdict
read_lent text lent walls = read_verdict text walls then long_enough 54 lent

-- `kalomivund_read_sheet`: the word, the floor record and the wall memory.
unfoldable pub read_word : List ℕ → ℕ → ℕ → ℕ
read_word text lent walls = word_of (of_number (read_lent text lent walls gives 0))

unfoldable pub read_record : List ℕ → List ℕ → ℕ → List ℕ
read_record text xs walls = when_passed (read_lent text (length xs) walls) (put xs 0 (numbers_of (floor_at text))) xs

unfoldable pub read_stored : List ℕ → ℕ → List ℕ → List ℕ
read_stored text lent old = when_passed (read_lent text lent (length old)) (walls_at text ++ drop (floor_at text).walls old) old

-- `kalomivund_write_sheet`.
unfoldable pub write_word : List ℕ → List ℕ → ℕ → ℕ
write_word xs ws lent = word_for xs (of_number (write_verdict (floor_of xs) ws lent gives sheet_length (floor_of xs)))

unfoldable pub write_stored : List ℕ → List ℕ → List ℕ → List ℕ
write_stored xs ws old = stored_for xs (write_sheet (floor_of xs) ws old) old

-- The refusals of needed lengths: the limits of line 1, then 9 where fewer numbers are lent than there are figures.
unfoldable pub needed_verdict : Floor → ℕ → Verdict
needed_verdict f lent = limits_of f then long_enough 9 lent

-- `kalomivund_needed_lengths`.
unfoldable pub needed_word : List ℕ → ℕ → ℕ
needed_word xs lent = word_for xs (of_number (needed_verdict (floor_of xs) lent gives 0))

unfoldable pub needed_stored : List ℕ → List ℕ → List ℕ
needed_stored xs old =
    stored_for xs (when_passed (needed_verdict (floor_of xs) (length old)) (put old 0 (figure_list (lengths_of (floor_of xs)))) old) old

-- A search into route memory, of which a number of numbers is lent: the floor's refusals, then 9, then the search's own answer.
unfoldable pub search_lent : Floor → List ℕ → ℕ → List ℕ → ℕ → Outcome Answer
search_lent f ws i m lent = (check_of f ws then long_enough 64 lent) then_answers search_of f ws i m

-- `kalomivund_search`.
unfoldable pub search_word : List ℕ → List ℕ → ℕ → List ℕ → ℕ → ℕ
search_word xs ws i m lent = word_for xs (of_search (search_lent (floor_of xs) ws i m lent))

unfoldable pub search_stored : List ℕ → List ℕ → ℕ → List ℕ → List ℕ → List ℕ
search_stored xs ws i m old = stored_for xs (route_stored (search_lent (floor_of xs) ws i m (length old)) old) old

-- `kalomivund_print_routes`.
unfoldable pub print_word : List ℕ → ℕ → ℕ
print_word text lent = word_of (of_number (routes_outcome text lent))

unfoldable pub print_stored : List ℕ → List ℕ → List ℕ
print_stored text old = routes_memory text old

-- `kalomivund_ceiling`.
unfoldable pub ceiling_word : ℕ → ℕ
ceiling_word n = word_of (of_number (most_steps n))

-- `kalomivund_check_floor`.
unfoldable pub check_word : List ℕ → List ℕ → ℕ
check_word xs ws = word_for xs (of_number (check_of (floor_of xs) ws gives 0))

-- `kalomivund_plan`.
unfoldable pub plan_word : List ℕ → List ℕ → ℕ → ℕ
plan_word xs ws lent = word_for xs (of_number (plan_result (floor_of xs) ws lent))

unfoldable pub plan_stored : List ℕ → List ℕ → List ℕ → List ℕ
plan_stored xs ws old = stored_for xs (plan_memory (floor_of xs) ws old) old

-- `kalomivund_fresh`.
unfoldable pub fresh_word : List ℕ → List ℕ → ℕ → ℕ
fresh_word xs ws lent = word_for xs (of_number (place_verdict (floor_of xs) ws lent gives 0))

unfoldable pub fresh_stored : List ℕ → List ℕ → List ℕ → List ℕ
fresh_stored xs ws old = stored_for xs (fresh_memory (floor_of xs) ws old) old

-- `kalomivund_step`.
unfoldable pub step_word : List ℕ → List ℕ → List ℕ → ℕ → ℕ
step_word xs ws m x = word_for xs (of_reply (reply_to (floor_of xs) ws m (single_call m x)))

unfoldable pub step_stored : List ℕ → List ℕ → List ℕ → ℕ → List ℕ
step_stored xs ws m x = stored_for xs (memory_after (floor_of xs) ws m (single_call m x)) m

-- `kalomivund_run`.
unfoldable pub run_word : List ℕ → List ℕ → List ℕ → List ℕ → ℕ → ℕ
run_word xs ws m ys b = word_for xs (of_reply (reply_to (floor_of xs) ws m (run_call m ys b)))

unfoldable pub run_stored : List ℕ → List ℕ → List ℕ → List ℕ → ℕ → List ℕ
run_stored xs ws m ys b = stored_for xs (memory_after (floor_of xs) ws m (run_call m ys b)) m

-- `kalomivund_trial`: the word with the number of steps taken, the state memory and the report memory.
unfoldable pub trial_word : List ℕ → List ℕ → (order seed state report : ℕ) → ℕ
trial_word xs ws order seed state report = word_for xs (of_number (trial_outcome (floor_of xs) ws order seed state report))

unfoldable pub trial_state_stored : List ℕ → List ℕ → (order seed : ℕ) → List ℕ → (report : ℕ) → List ℕ
trial_state_stored xs ws order seed m report = stored_for xs (state_tried (floor_of xs) ws order seed m report) m

unfoldable pub trial_report_stored : List ℕ → List ℕ → (order seed state : ℕ) → List ℕ → List ℕ
trial_report_stored xs ws order seed state m = stored_for xs (report_tried (floor_of xs) ws order seed state m) m

-- `kalomivund_run_of_rank`: the word with the steps of the run and the total, and the report memory.
unfoldable pub rank_word : List ℕ → List ℕ → (rank report : ℕ) → ℕ
rank_word xs ws rank report = word_for xs (of_rank (rank_outcome (floor_of xs) ws rank report))

unfoldable pub rank_stored : List ℕ → List ℕ → (rank : ℕ) → List ℕ → List ℕ
rank_stored xs ws rank m = stored_for xs (report_listed (floor_of xs) ws rank m) m

-- `kalomivund_conflict`: two lent routes and a horizon.
unfoldable pub conflict_word : List ℕ → List ℕ → ℕ → ℕ
conflict_word r q horizon = word_of (of_conflict (conflict_outcome r q horizon))

-- `kalomivund_check_record`: a floor with its walls, a carrier, and a lent record.
unfoldable pub record_word : List ℕ → List ℕ → (carrier : ℕ) → List ℕ → ℕ
record_word xs ws carrier m = word_for xs (of_record (record_outcome (floor_of xs) ws carrier m))

-- `kalomivund_arrival`: a lent route and a horizon.
unfoldable pub arrival_word : List ℕ → ℕ → ℕ
arrival_word r horizon = word_of (of_number (arrival_outcome r horizon))

-- `kalomivund_blockers`: the word with the set as its number, and the answers' memory.
unfoldable pub blockers_word : List ℕ → List ℕ → (carrier lent : ℕ) → ℕ
blockers_word xs ws carrier lent = word_for xs (of_number (blockers_outcome (floor_of xs) ws carrier lent))

unfoldable pub blockers_stored : List ℕ → List ℕ → (carrier : ℕ) → List ℕ → List ℕ
blockers_stored xs ws carrier old = stored_for xs (blockers_memory (floor_of xs) ws carrier old) old
