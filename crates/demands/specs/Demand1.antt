-- Demand 1: every entry refuses exactly under the rows of document 01's table, in its order and with its first place; with a refusal all
-- lent memory is as it was found, and memory beyond the needed length, which one entry tells, is never written.
use Rattle.std.specs.Prelude.{ℕ, ◌+◌, ◌*◌, ◌-◌, ◌≤◌, ◌<◌, List, ◌↔◌, ◌≡◌, length, take}
use Rattle.laws.specs.Verdict.{First, passed, value}
use Rattle.floor.specs.declared.Floor.{Floor}
use Rattle.floor.specs.Checks.{check_of}
use Rattle.floor.specs.Accepted.{FieldWithin, Within}
use Rattle.floor.specs.Refused.{RefusedWith as RefusedFloor}
use Rattle.sheet.specs.Values.{floor_at}
use Rattle.sheet.specs.Read.{sheet_verdict, read_verdict, read_walls, write_verdict, write_sheet}
use Rattle.sheet.specs.Refused.{RefusedSheet}
use Rattle.route.specs.Route.{none}
use Rattle.conflict.specs.Entry.{conflict_outcome}
use Rattle.search.specs.Search.{search_of}
use Rattle.legality.specs.Entry.{record_outcome, arrival_outcome}
use Rattle.planner.specs.Answers.{plan_result}
use Rattle.planner.specs.Records.{plan_memory}
use Rattle.planner.specs.Plan.{plan_of}
use Rattle.planner.specs.Claims.{answer_at}
use Rattle.blockers.specs.Entry.{blockers_outcome, blockers_memory}
use Rattle.printing.specs.Print.{print_outcome, print_answers, print_memory, needed_for, routes_outcome, routes_memory}
use Rattle.lengths.specs.Figures.{figures_for, lengths_of}
use Rattle.reference.specs.State.{State}
use Rattle.reference.specs.Table.{Call}
use Rattle.reference.specs.Refused.{RefusedCall}
use Rattle.encoding.specs.Encode.{encode}
use Rattle.encoding.specs.Ranges.{WithinRanges}
use Rattle.encoding.specs.Calls.{machine_of, place_verdict, state_in, fresh_memory, reply_to, memory_after}
use Rattle.machine.specs.Ceiling.{most_steps}
use Rattle.trial.specs.Entry.{trial_outcome, state_tried, report_tried}
use Rattle.lister.specs.Entry.{total_of, rank_outcome, report_listed}
use Rattle.demands.specs.Rows.{Table, Row, Short, ◌or_else◌, Refuses, Answers, Keeps}

-- 2, field: a value of line 1 is outside its limits; the first such field.
pub data OutsideLimit (f : Floor) : ℕ → ℕ → Type 0 where
  outside : {i : ℕ} → First (FieldWithin f) 6 i → OutsideLimit f 2 (1 + i)

-- The front of a memory is a state within the ranges.
abbrev pub HoldsState : Floor → List ℕ → Type 0
HoldsState f m = (s : State) × WithinRanges f s × (take (lengths_of f).state m ≡ encode f.carriers s)

-- The rows of each entry, in their order.
module _ (f : Floor) (ws : List ℕ) where
  abbrev pub WriteRows : ℕ → Table
  WriteRows lent = RefusedFloor f ws or_else Short lent (lengths_of f).sheet

  abbrev pub PlanRows : ℕ → Table
  PlanRows lent = RefusedFloor f ws or_else Short lent (lengths_of f).answers

  abbrev pub PrintRows : ℕ → ℕ → Table
  PrintRows lent bytes = PlanRows lent or_else Short bytes (lengths_of f).text

  abbrev pub SearchRows : ℕ → ℕ → Table
  SearchRows i lent = PlanRows lent or_else Row 7 0 (Within 1 f.carriers i → ⊥)

  -- The check of a record, which has a tag besides the cells of a route.
  abbrev pub RecordRows : (carrier lent : ℕ) → Table
  RecordRows carrier lent =
      RefusedFloor f ws or_else Short lent ((lengths_of f).route + 1) or_else Row 7 0 (Within 1 f.carriers carrier → ⊥)

  -- 16, 0: the carrier has a route (document 02, slip 8).
  abbrev pub BlockersRows : (carrier lent : ℕ) → Table
  BlockersRows carrier lent = SearchRows carrier lent or_else Row 16 0 (answer_at (plan_of f ws) (carrier - 1) ≡ none → ⊥)

  abbrev pub FreshRows : ℕ → Table
  FreshRows lent = RefusedFloor f ws or_else Short lent (lengths_of f).state

  abbrev pub StateRows : List ℕ → Table
  StateRows m = FreshRows (length m) or_else Row 10 0 (HoldsState f m → ⊥)

  abbrev pub CallRows : List ℕ → Call → Table
  CallRows m x = StateRows m or_else RefusedCall (machine_of f ws) (state_in f m) x

  -- 11, 0: an order other than 1 to 3 (document 02, slip 1).
  abbrev pub TrialRows : (order state report : ℕ) → Table
  TrialRows order state report = FreshRows state or_else Short report (lengths_of f).report or_else Row 11 0 (Within 1 3 order → ⊥)

  -- 14, 0: more than three carriers; 15, 0: a rank not below the total (document 02, slip 6).
  abbrev pub SmallRows : (report : ℕ) → Table
  SmallRows report = RefusedFloor f ws or_else Short report (lengths_of f).report or_else Row 14 0 (3 < f.carriers)

  abbrev pub RankRows : (rank report : ℕ) → Table
  RankRows rank report = SmallRows report or_else Row 15 0 (total_of f ws ≤ rank)

-- The conflict test of two lent routes (document 02, slip 7): 9 for either, below the figure for a route.
abbrev pub ConflictRows : Floor → (first second : ℕ) → Table
ConflictRows f first second = Short first (lengths_of f).route or_else Short second (lengths_of f).route

-- The arrival of a lent route: 9 below the figure for a route.
abbrev pub ArrivalRows : Floor → (lent : ℕ) → Table
ArrivalRows f lent = Short lent (lengths_of f).route

abbrev pub ReadRows : List ℕ → ℕ → Table
ReadRows text lent = RefusedSheet text or_else Short lent (lengths_of (floor_at text)).walls

-- Printing from a sheet is refused only where text memory is too short, then with the first row that holds.
abbrev pub RoutesRows : List ℕ → ℕ → Table
RoutesRows text bytes k p = (bytes < needed_for text) × (RefusedSheet text or_else Row 9 0 (Unit {0})) k p

pub record Demand1 : Type 0 where
  -- A floor as a record; an accepted one is what no row refuses.
  pub check : (f : Floor) (ws : List ℕ) → Refuses (check_of f ws) (RefusedFloor f ws)
  pub accepted : (f : Floor) (ws : List ℕ) → (check_of f ws ≡ passed) ↔ ((k p : ℕ) → RefusedFloor f ws k p → ⊥)
  -- A sheet, likewise.
  pub sheet : (text : List ℕ) → Refuses (sheet_verdict text) (RefusedSheet text)
  pub sheet_accepted : (text : List ℕ) → (sheet_verdict text ≡ passed) ↔ ((k p : ℕ) → RefusedSheet text k p → ⊥)
  -- Reading a sheet, and writing one.
  pub read : (text : List ℕ) (lent : ℕ) → Refuses (read_verdict text lent) (ReadRows text lent)
  pub read_keeps : (text old : List ℕ) → Keeps (ReadRows text (length old)) (lengths_of (floor_at text)).walls old (read_walls text old)
  pub write : (f : Floor) (ws : List ℕ) (lent : ℕ) → Refuses (write_verdict f ws lent) (WriteRows f ws lent)
  pub write_keeps : (f : Floor) (ws old : List ℕ) → Keeps (WriteRows f ws (length old)) (lengths_of f).sheet old (write_sheet f ws old)
  -- A search, a plan, and the printed routes of a floor.
  pub search : (f : Floor) (ws : List ℕ) (i : ℕ) (views : List ℕ) → Answers (search_of f ws i views) (SearchRows f ws i (length views))
  pub plan : (f : Floor) (ws : List ℕ) (lent : ℕ) → Answers (plan_result f ws lent) (PlanRows f ws lent)
  pub plan_keeps : (f : Floor) (ws old : List ℕ) → Keeps (PlanRows f ws (length old)) (lengths_of f).answers old (plan_memory f ws old)
  pub print : (f : Floor) (ws : List ℕ) (lent bytes : ℕ) → Answers (print_outcome f ws lent bytes) (PrintRows f ws lent bytes)
  pub print_keeps_answers : (f : Floor) (ws : List ℕ) (bytes : ℕ) (old : List ℕ) →
      Keeps (PrintRows f ws (length old) bytes) (lengths_of f).answers old (print_answers f ws bytes old)
  pub print_keeps_text : (f : Floor) (ws : List ℕ) (lent : ℕ) (old : List ℕ) →
      Keeps (PrintRows f ws lent (length old)) (lengths_of f).text old (print_memory f ws lent old)
  -- The printed routes of a sheet: a refused sheet is an answer, its line.
  pub routes : (text : List ℕ) (bytes : ℕ) → Answers (routes_outcome text bytes) (RoutesRows text bytes)
  pub routes_keeps : (text old : List ℕ) → Keeps (RoutesRows text (length old)) (needed_for text) old (routes_memory text old)
  -- The needed lengths: of an accepted floor they are told, and none is over 65,536 bytes.
  pub lengths : (f : Floor) → Answers (figures_for f) (OutsideLimit f)
  pub lengths_told : (f : Floor) (ws : List ℕ) → check_of f ws ≡ passed → figures_for f ≡ value (lengths_of f)
  pub lengths_small : (f : Floor) (ws : List ℕ) → check_of f ws ≡ passed → (2 * (lengths_of f).walls ≤ 65536) × ((lengths_of f).sheet ≤ 65536)
      × (2 * (lengths_of f).answers ≤ 65536) × ((lengths_of f).text ≤ 65536) × (2 * (lengths_of f).state ≤ 65536)
      × (2 * (lengths_of f).report ≤ 65536)
  -- The fresh state, and every call on a lent state: single steps and runs.
  pub fresh : (f : Floor) (ws : List ℕ) (lent : ℕ) → Refuses (place_verdict f ws lent) (FreshRows f ws lent)
  pub fresh_keeps : (f : Floor) (ws old : List ℕ) → Keeps (FreshRows f ws (length old)) (lengths_of f).state old (fresh_memory f ws old)
  pub call : (f : Floor) (ws m : List ℕ) (x : Call) → Answers (reply_to f ws m x) (CallRows f ws m x)
  pub call_keeps : (f : Floor) (ws m : List ℕ) (x : Call) → Keeps (CallRows f ws m x) (lengths_of f).state m (memory_after f ws m x)
  -- The step ceiling.
  pub ceiling : (n : ℕ) → Answers (most_steps n) (Row 2 5 (Within 1 8 n → ⊥))
  -- A trial, with its state and its report.
  pub trial : (f : Floor) (ws : List ℕ) (order seed state report : ℕ)
      → Answers (trial_outcome f ws order seed state report) (TrialRows f ws order state report)
  pub trial_keeps_state : (f : Floor) (ws : List ℕ) (order seed : ℕ) (old : List ℕ) (report : ℕ)
      → Keeps (TrialRows f ws order (length old) report) (lengths_of f).state old (state_tried f ws order seed old report)
  pub trial_keeps_report : (f : Floor) (ws : List ℕ) (order seed state : ℕ) (old : List ℕ)
      → Keeps (TrialRows f ws order state (length old)) (lengths_of f).report old (report_tried f ws order seed state old)
  -- The run of a rank, with its report.
  pub run_of_rank_lem : (f : Floor) (ws : List ℕ) (rank report : ℕ) → Answers (rank_outcome f ws rank report) (RankRows f ws rank report)
  pub run_keeps_report : (f : Floor) (ws : List ℕ) (rank : ℕ) (old : List ℕ)
      → Keeps (RankRows f ws rank (length old)) (lengths_of f).report old (report_listed f ws rank old)
  -- Who shuts a carrier in, with the sequential answers.
  pub blockers : (f : Floor) (ws : List ℕ) (carrier lent : ℕ) → Answers (blockers_outcome f ws carrier lent) (BlockersRows f ws carrier lent)
  pub blockers_keeps : (f : Floor) (ws : List ℕ) (carrier : ℕ) (old : List ℕ)
      → Keeps (BlockersRows f ws carrier (length old)) (lengths_of f).answers old (blockers_memory f ws carrier old)
  -- The conflict test of two lent routes, which writes no memory.
  pub conflict : (f : Floor) (r q : List ℕ) (horizon : ℕ) → Answers (conflict_outcome r q horizon) (ConflictRows f (length r) (length q))
  -- The check of a record and the arrival of a lent route, which write no memory.
  pub check_record : (f : Floor) (ws : List ℕ) (carrier : ℕ) (m : List ℕ)
      → Answers (record_outcome f ws carrier m) (RecordRows f ws carrier (length m))
  pub arrival : (f : Floor) (r : List ℕ) (horizon : ℕ) → Answers (arrival_outcome r horizon) (ArrivalRows f (length r))
