-- Demand 2: each accepted floor gets exactly the routes of prioritized planning; none exactly where no route exists, never taken for not
-- heard; sheets and floors survive the round trip; and the same floor gets the same answers. Carriers count from 0, in tasks from 1.
use Rattle.std.specs.Prelude.{ℕ, suc, ◌+◌, ◌*◌, ◌≤◌, ◌<◌, true, List, ◌∷◌, ◌++◌, map, ◌↔◌, ◌≡◌, length, get_or, take}
use Rattle.laws.specs.Verdict.{passed, refused, value}
use Rattle.floor.specs.declared.Floor.{Floor}
use Rattle.floor.specs.Checks.{check_of, start_of}
use Rattle.floor.specs.Accepted.{Absent, Lent, SameFloor}
use Rattle.route.specs.Route.{cell_at, Answer, none, route, View, unheard, heard, Task}
use Rattle.route.specs.Best.{Arrives, Admissible, Best}
use Rattle.route.specs.Arrival.{arrival_of}
use Rattle.route.specs.FirstConflict.{free}
use Rattle.route.specs.ConflictTest.{first_conflict, TestedFor}
use Rattle.laws.specs.Memory.{part}
use Rattle.records.specs.Records.{record_of, slot, records, views_of}
use Rattle.records.specs.Seen.{seen_from, seen}
use Rattle.sheet.specs.Text.{sheet_length}
use Rattle.sheet.specs.Values.{floor_at, walls_at}
use Rattle.sheet.specs.Read.{sheet_verdict, read_verdict, read_floor, read_walls, write_verdict, write_sheet}
use Rattle.search.specs.Task.{task_of}
use Rattle.search.specs.Search.{search_of}
use Rattle.legality.specs.Entry.{a_route, a_none, not_heard, wrong, record_outcome}
use Rattle.legality.specs.Faults.{FaultAt}
use Rattle.legality.specs.Claims.{RecordGranted, RouteIn}
use Rattle.planner.specs.Plan.{respond_of, plan_of, failing_of}
use Rattle.planner.specs.Answers.{plan_result}
use Rattle.planner.specs.Records.{plan_memory}
use Rattle.planner.specs.Claims.{answer_at}
use Rattle.printing.specs.Text.{routes_text, refusal_line}
use Rattle.printing.specs.Print.{print_outcome, print_answers, print_memory, routes_of}
use Rattle.lengths.specs.Figures.{figures_for}
use Rattle.reference.specs.Table.{Call}
use Rattle.encoding.specs.Calls.{place_verdict, fresh_memory, reply_to, memory_after}
use Rattle.trial.specs.Entry.{trial_outcome, state_tried, report_tried}
use Rattle.lister.specs.Entry.{rank_outcome, report_listed}
use Rattle.blockers.specs.Entry.{blockers_outcome, blockers_memory}

-- Prioritized planning (document 01, 'The sequential planner'; document 02, slip 2): each carrier in turn has the best answer against the
-- answers above it, one with none staying at its start.
pub record Prioritized (f : Floor) (ws : List ℕ) (xs : List Answer) : Type 0 where
  pub every : length xs ≡ f.carriers
  pub best : (k : ℕ) → k < f.carriers → Best (task_of f ws (k + 1)) (seen f (map heard (take k xs))) (answer_at xs k)

-- Two floors get the same answers from every entry, and leave the same in lent memory, but for the sheet that is written.
pub record SameOutcomes (f : Floor) (ws : List ℕ) (f' : Floor) (ws' : List ℕ) : Type 0 where
  pub check : check_of f ws ≡ check_of f' ws'
  pub lengths : figures_for f ≡ figures_for f'
  pub write : (lent : ℕ) → write_verdict f ws lent ≡ write_verdict f' ws' lent
  pub search : (i : ℕ) (views : List ℕ) → search_of f ws i views ≡ search_of f' ws' i views
  pub plan : (lent : ℕ) → plan_result f ws lent ≡ plan_result f' ws' lent
  pub answers : (old : List ℕ) → plan_memory f ws old ≡ plan_memory f' ws' old
  pub print : (lent bytes : ℕ) → print_outcome f ws lent bytes ≡ print_outcome f' ws' lent bytes
  pub printed_answers : (bytes : ℕ) (old : List ℕ) → print_answers f ws bytes old ≡ print_answers f' ws' bytes old
  pub text : (lent : ℕ) (old : List ℕ) → print_memory f ws lent old ≡ print_memory f' ws' lent old
  pub fresh : (lent : ℕ) → place_verdict f ws lent ≡ place_verdict f' ws' lent
  pub fresh_memory_lem : (old : List ℕ) → fresh_memory f ws old ≡ fresh_memory f' ws' old
  pub call : (m : List ℕ) (x : Call) → reply_to f ws m x ≡ reply_to f' ws' m x
  pub memory : (m : List ℕ) (x : Call) → memory_after f ws m x ≡ memory_after f' ws' m x
  pub trial : (order seed state report : ℕ) → trial_outcome f ws order seed state report ≡ trial_outcome f' ws' order seed state report
  pub trial_state : (order seed : ℕ) (old : List ℕ) (report : ℕ) →
      state_tried f ws order seed old report ≡ state_tried f' ws' order seed old report
  pub trial_report : (order seed state : ℕ) (old : List ℕ) → report_tried f ws order seed state old ≡ report_tried f' ws' order seed state old
  pub run_of_rank_lem : (rank report : ℕ) → rank_outcome f ws rank report ≡ rank_outcome f' ws' rank report
  pub run_report : (rank : ℕ) (old : List ℕ) → report_listed f ws rank old ≡ report_listed f' ws' rank old
  pub blockers : (carrier lent : ℕ) → blockers_outcome f ws carrier lent ≡ blockers_outcome f' ws' carrier lent
  pub check_record : (carrier : ℕ) (m : List ℕ) → record_outcome f ws carrier m ≡ record_outcome f' ws' carrier m
  pub blockers_answers : (carrier : ℕ) (old : List ℕ) → blockers_memory f ws carrier old ≡ blockers_memory f' ws' carrier old

-- With the sheet.
pub record SameAnswers (f : Floor) (ws : List ℕ) (f' : Floor) (ws' : List ℕ) : Type 0 where
  pub outcomes : SameOutcomes f ws f' ws'
  pub sheet : (old : List ℕ) → write_sheet f ws old ≡ write_sheet f' ws' old

pub record Demand2 : Type 0 where
  -- The plan of an accepted floor is what prioritized planning gives, and nothing else is.
  pub plan_exactly : (f : Floor) (ws : List ℕ) (xs : List Answer) → check_of f ws ≡ passed → Prioritized f ws xs ↔ (xs ≡ plan_of f ws)
  -- Every best response is the best answer, and there is one best answer only; a cell is free exactly if it is no wall.
  pub respond_best : (f : Floor) (ws : List ℕ) (i : ℕ) (vs : List View) → check_of f ws ≡ passed →
      Best (task_of f ws (i + 1)) (seen f vs) (respond_of f ws i vs)
  pub best_unique : (task : Task) (vs : List View) (x y : Answer) → Best task vs x → Best task vs y → x ≡ y
  pub free_exactly : (f : Floor) (ws : List ℕ) (i c : ℕ) → ((task_of f ws i).free c ≡ true) ↔ Absent ws f.walls c
  -- A search answers the best answer against the views that its memory shows, as they are seen.
  pub search_best : (f : Floor) (ws : List ℕ) (i : ℕ) (m : List ℕ) (x : Answer) → search_of f ws i m ≡ value x →
      Best (task_of f ws i) (seen f (views_of m i)) x
  -- None is answered exactly if no route is free of conflict with the answers above, as they are seen.
  pub none_exactly : (f : Floor) (ws : List ℕ) (k : ℕ) → check_of f ws ≡ passed → k < f.carriers →
      (answer_at (plan_of f ws) k ≡ none)
      ↔ ((q : List ℕ) → Admissible (task_of f ws (k + 1)) (seen f (map heard (take k (plan_of f ws)))) q → ⊥)
  -- None, once heard, keeps every response off the start of the carrier that told it, at every beat; not heard may be left out.
  pub none_occupies : (f : Floor) (ws : List ℕ) (i : ℕ) (vs : List View) (j t : ℕ) (r : List ℕ) → check_of f ws ≡ passed →
      get_or vs j unheard ≡ heard none → respond_of f ws i vs ≡ route r → t ≤ f.horizon → cell_at r t ≡ start_of f j → ⊥
  pub unheard_left_out : (f : Floor) (ws : List ℕ) (i : ℕ) (vs vs' : List View) → check_of f ws ≡ passed →
      Best (task_of f ws (i + 1)) (seen f vs ++ seen_from f (suc (length vs)) vs') (respond_of f ws i (vs ++ (unheard ∷ vs')))
  -- No route of a plan is at any beat in the start of a carrier above it that has none.
  pub stranded_avoided : (f : Floor) (ws : List ℕ) (j k t : ℕ) (r : List ℕ) → check_of f ws ≡ passed → j < k → k < f.carriers →
      answer_at (plan_of f ws) j ≡ none → answer_at (plan_of f ws) k ≡ route r → t ≤ f.horizon → cell_at r t ≡ start_of f j → ⊥
  -- Where no carrier above has none, the answer is best against the answers above as they are: nobody stranded, document 01's answers.
  pub unstranded_best : (f : Floor) (ws : List ℕ) (k : ℕ) → check_of f ws ≡ passed → k < f.carriers →
      ((j : ℕ) → j < k → answer_at (plan_of f ws) j ≡ none → ⊥) →
      Best (task_of f ws (k + 1)) (map heard (take k (plan_of f ws))) (answer_at (plan_of f ws) k)
  -- The stored plan shows every answer as heard, none as none.
  pub stored_heard : (f : Floor) (ws old : List ℕ) → check_of f ws ≡ passed → 65 * f.carriers ≤ length old →
      records (plan_memory f ws old) f.carriers ≡ map heard (plan_of f ws)
  -- The failing carrier, counted from 1, is the first with none; 0 exactly if there is none.
  pub failing : (f : Floor) (ws : List ℕ) (lent : ℕ) → check_of f ws ≡ passed → 65 * f.carriers ≤ lent →
      plan_result f ws lent ≡ value (failing_of (plan_of f ws))
  pub failing_first : (f : Floor) (ws : List ℕ) (k : ℕ) → failing_of (plan_of f ws) ≡ suc k →
      (k < f.carriers) × (answer_at (plan_of f ws) k ≡ none) × ((j : ℕ) → j < k → answer_at (plan_of f ws) j ≡ none → ⊥)
  pub failing_none : (f : Floor) (ws : List ℕ) →
      (failing_of (plan_of f ws) ≡ 0) ↔ ((j : ℕ) → j < f.carriers → answer_at (plan_of f ws) j ≡ none → ⊥)
  -- What is printed for a sheet: the plan of its floor, with arrivals; or the line of its refusal.
  pub printed : (text : List ℕ) → sheet_verdict text ≡ passed →
      routes_of text ≡ routes_text (floor_at text) (plan_of (floor_at text) (walls_at text))
  pub printed_refusal : (text : List ℕ) (k p : ℕ) → sheet_verdict text ≡ refused k p → routes_of text ≡ refusal_line k p
  pub arrival_exactly : (H : ℕ) (r : List ℕ) (a : ℕ) → Arrives H r a ↔ (a ≡ arrival_of r H)
  -- A floor written and read is the same floor; a sheet read and written is the same sheet; memory may be longer than needed.
  pub floor_returns : (f : Floor) (ws old lent : List ℕ) → check_of f ws ≡ passed → sheet_length f ≤ length old → f.walls ≤ length lent →
      SameFloor f ws (read_floor (take (sheet_length f) (write_sheet f ws old)) (length lent))
      (read_walls (take (sheet_length f) (write_sheet f ws old)) lent)
  pub sheet_returns : (text lent old : List ℕ) → read_verdict text (length lent) ≡ passed → length text ≤ length old →
      take (length text) (write_sheet (read_floor text (length lent)) (read_walls text lent) old) ≡ text
  -- The same floor gets the same answers: record places past the carriers and walls past the count change nothing.
  pub same_floor : (f : Floor) (ws : List ℕ) (f' : Floor) (ws' : List ℕ) → SameFloor f ws f' ws' → Lent f ws → Lent f' ws' →
      SameAnswers f ws f' ws'
  -- The conflict test answers free exactly if two routes have no conflict, otherwise the first one with its beat and kind; any two routes
  -- of a plan are free.
  pub conflict_test : (H : ℕ) (r q : List ℕ) → TestedFor H r q
  pub plan_free : (f : Floor) (ws : List ℕ) (j k : ℕ) (r q : List ℕ) → check_of f ws ≡ passed → j < k → k < f.carriers →
      answer_at (plan_of f ws) j ≡ route q → answer_at (plan_of f ws) k ≡ route r → first_conflict f.horizon r q ≡ free
  -- The check of a record: a route is answered exactly if it is one of the carrier, with its arrival, none and not heard exactly of their
  -- records, and what is wrong exactly under the condition of its cause, with its first beat; every route that a search answers is one.
  pub record_route : (f : Floor) (ws : List ℕ) (i : ℕ) (m : List ℕ) (a : ℕ) →
      (record_outcome f ws i m ≡ value (a_route a)) ↔ RouteIn f ws i m a
  pub record_none : (f : Floor) (ws : List ℕ) (i : ℕ) (m : List ℕ) →
      (record_outcome f ws i m ≡ value a_none) ↔ (RecordGranted f ws i m × (part m 0 65 ≡ record_of none))
  pub record_unheard : (f : Floor) (ws : List ℕ) (i : ℕ) (m : List ℕ) →
      (record_outcome f ws i m ≡ value not_heard) ↔ (RecordGranted f ws i m × (part m 0 65 ≡ slot unheard))
  pub record_wrong : (f : Floor) (ws : List ℕ) (i : ℕ) (m : List ℕ) (k t : ℕ) →
      (record_outcome f ws i m ≡ value (wrong k t)) ↔ (RecordGranted f ws i m × FaultAt (task_of f ws i) (get_or m 0 0) (part m 1 64) k t)
  pub found_legal : (f : Floor) (ws : List ℕ) (i : ℕ) (m r : List ℕ) → search_of f ws i m ≡ value (route r) →
      record_outcome f ws i (2 ∷ r) ≡ value (a_route (arrival_of r f.horizon))
