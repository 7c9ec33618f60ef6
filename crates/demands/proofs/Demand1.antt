-- Demand 1, proved.
use Prim.Native.Nat.{ℕ, ◌+◌, ◌*◌, ◌≤◌, ◌<◌}
use native.Mathlib.Omega.{arith}
use native.Mathlib.Nat.{zero-add}
use mathlib.Core.Bool.{true, false, cond}
use mathlib.Core.List.{List, ◌++◌}
use mathlib.Core.Logic.{◌↔◌, ◌⊎◌, inl, inr}
use mathlib.Core.Path.{◌≡◌, refl, ◌∙◌, ap}
use lib.Dec.{leb}
use lib.ListN.{length, take, drop, take-append-drop}
use borrow.Author.Tests.{le-leb, lt-leb}
use Rattle.laws.specs.Memory.{put}
use Rattle.laws.specs.Verdict.{Verdict, passed, refused, ◌then◌, demand, Outcome, value, refusal, ◌then_answers◌, when_passed}
use Rattle.laws.proofs.Tests.{lt_or_le, not_true_is_false, false_fails}
use Rattle.laws.proofs.VerdictLaws.{then_both, then_assoc, when_passed_lem, when_refused, demand_holds}
use Rattle.floor.specs.declared.Floor.{Floor}
use Rattle.floor.specs.Checks.{check_of, limits_of, long_enough, within}
use Rattle.floor.proofs.LimitsLaws.{check_tells, length_passed}
use Rattle.sheet.specs.Text.{sheet_of, sheet_length}
use Rattle.sheet.specs.Values.{floor_at, walls_at}
use Rattle.sheet.specs.Read.{sheet_verdict, read_verdict, read_walls, write_verdict, write_sheet}
use Rattle.sheet.specs.Refused.{RefusedSheet}
use Rattle.sheet.proofs.FormLaws.{walls_length}
use Rattle.sheet.proofs.Theorems.{theorems as sheet-theorems}
use Rattle.search.specs.Search.{request_of, search_of}
use Rattle.planner.specs.Plan.{plan_of, plan_verdict}
use Rattle.planner.proofs.ResultLaws.{plan_size}
use Rattle.planner.specs.Answers.{plan_result}
use Rattle.records.specs.Records.{records_of, stored}
use Rattle.planner.specs.Records.{plan_memory}
use Rattle.printing.specs.Print.{print_of, text_length, print_verdict, print_outcome, print_answers, print_memory}
use Rattle.printing.specs.Print.{routes_of, needed_for, short_outcome, routes_outcome, routes_memory}
use Rattle.printing.proofs.Theorems.{theorems as printing-theorems}
use Rattle.lengths.specs.Figures.{figures_for, lengths_of}
use Rattle.lengths.proofs.Theorems.{theorems as lengths-theorems}
use Rattle.reference.specs.State.{State, fresh}
use Rattle.reference.specs.Table.{Call, verdict}
use Rattle.reference.specs.Refused.{RefusedCall}
use Rattle.reference.specs.Calls.{reply, after_call}
use Rattle.reference.proofs.Theorems.{theorems as reference-theorems}
use Rattle.encoding.specs.Encode.{encode}
use Rattle.encoding.specs.Places.{state_size}
use Rattle.encoding.specs.Valid.{valid}
use Rattle.encoding.specs.Calls.{machine_of, place_verdict, state_verdict, state_in, with_state, fresh_memory, reply_to, memory_after}
use Rattle.encoding.proofs.StateLaws.{encode_beyond}
use Rattle.encoding.proofs.Theorems.{theorems as layout-theorems}
use Rattle.machine.specs.Ceiling.{most_steps}
use Rattle.trial.specs.Report.{report_numbers, report_size}
use Rattle.trial.specs.Entry.{trial_verdict, trial_of, trial_outcome, state_tried, report_tried}
use Rattle.trial.proofs.Theorems.{theorems as trial-theorems}
use Rattle.demands.specs.Rows.{Table, Row, row, Short, ◌or_else◌, earlier, later, Refuses, Answers, Keeps}
use Rattle.demands.specs.Demand1.{HoldsState, ReadRows, WriteRows, PlanRows, PrintRows, SearchRows, FreshRows, StateRows, CallRows}
use Rattle.demands.specs.Demand1.{TrialRows, RoutesRows, Demand1}
use Rattle.demands.proofs.RankLaws.{run_of_rank_lem, run_keeps_report}
use Rattle.demands.proofs.BlockerLaws.{blockers, blockers_keeps}
use Rattle.demands.proofs.RouteLaws.{conflict, check_record, arrival}
use Rattle.demands.proofs.RowLaws.{then_rows, answers_rows, gives_rows, demand_row, short_row, keeps_when, value_no_refusal}
use Rattle.demands.proofs.RowLaws.{no_row_passes, passes_exactly, refusal_row}
use Rattle.laws.proofs.PutLaws.{front_beyond, put_beyond}
use Rattle.demands.proofs.EntryLaws.{floor_rows, lent_rows, outside_row, limit_rows}
use Rattle.demands.proofs.RefusalLaws.{reply_rows, state_kept}

module _ (text : List ℕ) where
  read : (lent : ℕ) → Refuses (read_verdict text lent) (ReadRows text lent)
  unfolding read_verdict lengths_of
  read lent = then_rows (sheet_verdict text) _ (sheet-theorems.refuses_exactly text) (λ e. short_row _ lent)

  read_keeps : (old : List ℕ) → Keeps (ReadRows text (length old)) (lengths_of (floor_at text)).walls old (read_walls text old)
  unfolding read_walls lengths_of
  read_keeps old =
      keeps_when _ (read_verdict text (length old)) (read (length old))
      (λ e. rw (← walls_length text) (front_beyond old (walls_at text) (length (walls_at text)) (omega arith)))

module _ (f : Floor) (ws : List ℕ) where
  write : (lent : ℕ) → Refuses (write_verdict f ws lent) (WriteRows f ws lent)
  unfolding write_verdict lengths_of
  write lent = lent_rows f ws (sheet_length f) lent

  write_keeps : (old : List ℕ) → Keeps (WriteRows f ws (length old)) (lengths_of f).sheet old (write_sheet f ws old)
  unfolding write_sheet lengths_of
  write_keeps old =
      keeps_when _ (write_verdict f ws (length old)) (write (length old))
      (λ e. rw (← sheet-theorems.sheet_length_lem f ws) (front_beyond old (sheet_of f ws) (length (sheet_of f ws)) (omega arith)))

  plan_rows : (lent : ℕ) → Refuses (plan_verdict f ws lent) (PlanRows f ws lent)
  unfolding plan_verdict lengths_of
  plan_rows lent = lent_rows f ws (65 * f.carriers) lent

  search : (i : ℕ) (views : List ℕ) → Answers (search_of f ws i views) (SearchRows f ws i (length views))
  unfolding search_of request_of plan_verdict
  search i views =
      rw (← then_assoc (check_of f ws) (long_enough (65 * f.carriers) (length views)) (demand (within 1 f.carriers i) 7 0))
      (gives_rows _ _ (then_rows (plan_verdict f ws (length views)) _ (plan_rows (length views)) (λ e. outside_row 1 f.carriers i 7 0)))

  plan : (lent : ℕ) → Answers (plan_result f ws lent) (PlanRows f ws lent)
  unfolding plan_result
  plan lent = gives_rows (plan_verdict f ws lent) _ (plan_rows lent)

  -- The answers of an accepted floor have the needed length.
  answers_long : (lent : ℕ) → plan_verdict f ws lent ≡ passed → length (records_of (plan_of f ws)) ≤ 65 * f.carriers
  unfolding plan_verdict
  answers_long lent e = omega (arith, plan_size f ws (check_tells f ws (then_both _ _ e).0).bounds.horizon.1)

  plan_keeps : (old : List ℕ) → Keeps (PlanRows f ws (length old)) (lengths_of f).answers old (plan_memory f ws old)
  unfolding plan_memory lengths_of stored
  plan_keeps old =
      keeps_when _ (plan_verdict f ws (length old)) (plan_rows (length old))
      (λ e. put_beyond old (records_of (plan_of f ws)) (65 * f.carriers) (answers_long (length old) e))

  print_rows : (lent bytes : ℕ) → Refuses (print_verdict f ws lent bytes) (PrintRows f ws lent bytes)
  unfolding print_verdict lengths_of
  print_rows lent bytes = then_rows (plan_verdict f ws lent) _ (plan_rows lent) (λ e. short_row (text_length f) bytes)

  print : (lent bytes : ℕ) → Answers (print_outcome f ws lent bytes) (PrintRows f ws lent bytes)
  unfolding print_outcome
  print lent bytes = gives_rows (print_verdict f ws lent bytes) _ (print_rows lent bytes)

  print_keeps_answers : (bytes : ℕ) (old : List ℕ)
      → Keeps (PrintRows f ws (length old) bytes) (lengths_of f).answers old (print_answers f ws bytes old)
  unfolding print_answers lengths_of stored print_verdict
  print_keeps_answers bytes old =
      keeps_when _ (print_verdict f ws (length old) bytes) (print_rows (length old) bytes)
      (λ e. put_beyond old (records_of (plan_of f ws)) (65 * f.carriers) (answers_long (length old) (then_both _ _ e).0))

  print_keeps_text : (lent : ℕ) (old : List ℕ)
      → Keeps (PrintRows f ws lent (length old)) (lengths_of f).text old (print_memory f ws lent old)
  unfolding print_memory lengths_of print_verdict plan_verdict
  print_keeps_text lent old =
      keeps_when _ (print_verdict f ws lent (length old)) (print_rows lent (length old))
      (λ e. put_beyond old (print_of f ws) (text_length f) (printing-theorems.text_within f ws (then_both _ _ (then_both _ _ e).0).0))

  fresh_rows : (lent : ℕ) → Refuses (place_verdict f ws lent) (FreshRows f ws lent)
  unfolding place_verdict lengths_of
  fresh_rows lent = lent_rows f ws (state_size f.carriers) lent

  state_beyond : (s : State) (m : List ℕ) → drop (state_size f.carriers) (with_state f m s) ≡ drop (state_size f.carriers) m
  state_beyond s m = encode_beyond f.carriers s m

  fresh_keeps : (old : List ℕ) → Keeps (FreshRows f ws (length old)) (lengths_of f).state old (fresh_memory f ws old)
  unfolding fresh_memory lengths_of
  fresh_keeps old = keeps_when _ (place_verdict f ws (length old)) (fresh_rows (length old)) (λ e. state_beyond fresh old)

  trial_rows : (order state report : ℕ) → Refuses (trial_verdict f ws order state report) (TrialRows f ws order state report)
  unfolding trial_verdict lengths_of
  trial_rows order state report =
      then_rows (place_verdict f ws state) _ (fresh_rows state) (λ e.
      then_rows (long_enough (report_size f.carriers) report) _ (short_row (report_size f.carriers) report)
      (λ h. outside_row 1 3 order 11 0))

  trial : (order seed state report : ℕ) → Answers (trial_outcome f ws order seed state report) (TrialRows f ws order state report)
  unfolding trial_outcome
  trial order seed state report = gives_rows (trial_verdict f ws order state report) _ (trial_rows order state report)

  trial_keeps_state : (order seed : ℕ) (old : List ℕ) (report : ℕ)
      → Keeps (TrialRows f ws order (length old) report) (lengths_of f).state old (state_tried f ws order seed old report)
  unfolding state_tried lengths_of
  trial_keeps_state order seed old report =
      keeps_when _ (trial_verdict f ws order (length old) report) (trial_rows order (length old) report)
      (λ e. state_beyond (trial_of f ws order seed).state old)

  trial_keeps_report : (order seed state : ℕ) (old : List ℕ)
      → Keeps (TrialRows f ws order state (length old)) (lengths_of f).report old (report_tried f ws order seed state old)
  unfolding report_tried lengths_of trial_verdict place_verdict
  trial_keeps_report order seed state old =
      keeps_when _ (trial_verdict f ws order state (length old)) (trial_rows order state (length old)) (λ e.
      let ok = (then_both _ _ (then_both _ _ e).0).0 in
      put_beyond old (report_numbers (trial_of f ws order seed).report) (report_size f.carriers)
      (trial-theorems.ends f ws order seed ok).fits)

  module _ (m : List ℕ) where
    -- A memory in a place for a state is refused with 10 exactly if its front is no state within the ranges.
    state_rows : Refuses (state_verdict f ws m) (StateRows f ws m)
    unfolding state_verdict place_verdict lengths_of
    state_rows =
        then_rows (place_verdict f ws (length m)) _ (fresh_rows (length m)) (λ e.
        let a = then_both (check_of f ws) _ e in
        let b = (check_tells f ws a.0).bounds in
        let v = layout-theorems.valid_exactly f m b.depth.1 b.horizon.1 (length_passed _ _ a.1) in
        demand_row (valid f m) 10 0 (
          λ z h. false_fails z (v.1 h),
          λ n. not_true_is_false (valid f m) (λ t. n (v.0 t)),
        ))

    call : (x : Call) → Answers (reply_to f ws m x) (CallRows f ws m x)
    unfolding reply_to
    call x = answers_rows (state_verdict f ws m) _ state_rows (λ e. reply_rows (machine_of f ws) (state_in f m) x)

    -- A memory that is a state and is given its own state again is as it was.
    same_state : state_verdict f ws m ≡ passed → with_state f m (state_in f m) ≡ m
    unfolding state_verdict place_verdict put
    same_state e =
        let a = then_both (place_verdict f ws (length m)) (demand (valid f m) 10 0) e in
        let b = then_both (check_of f ws) _ a.0 in
        let t = (check_tells f ws b.0).bounds in
        let d = (layout-theorems.decode_valid f m t.depth.1 t.horizon.1 (length_passed _ _ b.1)
        (demand_holds _ 10 0 a.1)).1 in
        rw (layout-theorems.encode_length f.carriers (state_in f m), zero-add, d) (take-append-drop (state_size f.carriers) m)

    module _ (x : Call) where
      call_as_found : (k p : ℕ) → CallRows f ws m x k p → memory_after f ws m x ≡ m
      unfolding memory_after
      call_as_found k p (earlier r) = when_refused _ ((state_rows k p).1 r)
      call_as_found k p (later n r) =
          let e = no_row_passes (state_verdict f ws m) state_rows n in
          when_passed_lem m e
          ∙ ap (with_state f m) (state_kept (machine_of f ws) (state_in f m) x k p
          ((reference-theorems.calls.refuses_exactly (machine_of f ws) (state_in f m) x k p).1 r))
          ∙ same_state e

      call_beyond : (y : Verdict) →
          drop (state_size f.carriers) (when_passed y (with_state f m (after_call (machine_of f ws) (state_in f m) x)) m)
          ≡ drop (state_size f.carriers) m
      unfolding when_passed
      call_beyond passed = state_beyond (after_call (machine_of f ws) (state_in f m) x) m
      call_beyond (refused k p) = refl

      call_keeps : Keeps (CallRows f ws m x) (lengths_of f).state m (memory_after f ws m x)
      unfolding memory_after lengths_of
      call_keeps = record { as_found = call_as_found; beyond = call_beyond (state_verdict f ws m) }

module _ (text : List ℕ) where
  -- With too little text memory the answer is the sheet's refusal, or 9.
  short_rows : Answers (short_outcome text) (RefusedSheet text or_else Row 9 0 (Unit {0}))
  unfolding short_outcome
  short_rows = answers_rows (sheet_verdict text) (refusal 9 0) (sheet-theorems.refuses_exactly text) (λ e. refusal_row 9 0)

  routes : (bytes : ℕ) → Answers (routes_outcome text bytes) (RoutesRows text bytes)
  unfolding routes_outcome
  routes bytes k p = go (lt_or_le bytes (needed_for text))
    where
      go : (bytes < needed_for text) ⊎ (needed_for text ≤ bytes) → (routes_outcome text bytes ≡ refusal k p) ↔ RoutesRows text bytes k p
      go (inl l) = rw (lt-leb _ _ l) (λ h. (l, (short_rows k p).0 h), λ r. (short_rows k p).1 r.1)
      go (inr l) = rw (le-leb _ _ l) (λ h. absurd (value_no_refusal h), λ r. absurd (omega (arith, r.0)))

  routes_keeps : (old : List ℕ) → Keeps (RoutesRows text (length old)) (needed_for text) old (routes_memory text old)
  unfolding routes_memory
  routes_keeps old = go (lt_or_le (length old) (needed_for text))
    where
      go : (length old < needed_for text) ⊎ (needed_for text ≤ length old) →
          Keeps (RoutesRows text (length old)) (needed_for text) old (routes_memory text old)
      go (inl l) = rw (lt-leb _ _ l) (record { as_found = λ k p r. refl; beyond = refl })
      go (inr l) =
          rw (le-leb _ _ l)
          (record {
            as_found = λ k p r. absurd (omega (arith, r.0));
            beyond = put_beyond old (routes_of text) (needed_for text) (printing-theorems.routes_within text).0;
          })

pub theorem : Demand1
unfolding figures_for lengths_of most_steps
theorem =
    record {
      check = floor_rows;
      accepted = λ f ws. passes_exactly (check_of f ws) (floor_rows f ws);
      sheet = sheet-theorems.refuses_exactly;
      sheet_accepted = λ text. passes_exactly (sheet_verdict text) (sheet-theorems.refuses_exactly text);
      read = read;
      read_keeps = read_keeps;
      write = write;
      write_keeps = write_keeps;
      search = search;
      plan = plan;
      plan_keeps = plan_keeps;
      print = print;
      print_keeps_answers = print_keeps_answers;
      print_keeps_text = print_keeps_text;
      routes = routes;
      routes_keeps = routes_keeps;
      lengths = λ f. gives_rows (limits_of f) _ (limit_rows f);
      lengths_told = lengths-theorems.accepted_known;
      lengths_small = λ f ws ok. (
        lengths-theorems.walls_within f ws ok,
        lengths-theorems.sheet_within f ws ok,
        lengths-theorems.answers_within f ws ok,
        lengths-theorems.text_within f ws ok,
        lengths-theorems.state_within f ws ok,
        lengths-theorems.report_within f ws ok,
      );
      fresh = fresh_rows;
      fresh_keeps = fresh_keeps;
      call = call;
      call_keeps = call_keeps;
      ceiling = λ n. gives_rows _ _ (outside_row 1 8 n 2 5);
      trial = trial;
      trial_keeps_state = trial_keeps_state;
      trial_keeps_report = trial_keeps_report;
      run_of_rank_lem = run_of_rank_lem;
      run_keeps_report = run_keeps_report;
      blockers = blockers;
      blockers_keeps = blockers_keeps;
      conflict = conflict;
      check_record = check_record;
      arrival = arrival;
    }
