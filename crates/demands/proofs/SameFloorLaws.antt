-- Records that differ at most in the order of docks get the same answers from every entry, but for the sheet that is written.
use Prim.Native.Nat.{ℕ, zero, suc, ◌+◌, ◌-◌, ◌<◌}
use native.Mathlib.Omega.{arith}
use mathlib.Core.List.{List, [], ◌++◌}
use mathlib.Core.Path.{◌≡◌, refl, ◌∙◌, ap, ap₂}
use lib.ListN.{length, get_or}
use Rattle.laws.specs.Verdict.{Verdict, passed, ◌gives◌, All}
use Rattle.laws.proofs.VerdictLaws.{gives_same}
use Rattle.floor.specs.declared.Floor.{Floor}
use Rattle.floor.specs.Checks.{check_of, limits_of, count_of}
use Rattle.floor.specs.Accepted.{SameDocks}
use Rattle.sheet.specs.Text.{carrier_at, wall_at, sheet_length, lines_of}
use Rattle.sheet.specs.Read.{write_verdict}
use Rattle.sheet.proofs.LinesText.{lines_same}
use Rattle.route.specs.Route.{View, Answer, none, route, Task}
use Rattle.search.specs.Task.{task_of}
use Rattle.search.specs.Search.{search_of}
use Rattle.legality.specs.Entry.{record_answer, record_verdict, record_outcome}
use Rattle.legality.proofs.EntryLaws.{verdict_granted}
use Rattle.planner.specs.Plan.{respond_of, plan_of, plan_verdict, failing_of}
use Rattle.planner.specs.Answers.{plan_result}
use Rattle.planner.specs.Records.{plan_memory}
use Rattle.planner.specs.Claims.{AgreeUpTo, answer_at}
use Rattle.planner.proofs.DependsLaws.{docks_agree, task_same, respond_same, plans_agree, searches_agree}
use Rattle.printing.specs.Text.{answer_line, first_line, routes_text}
use Rattle.printing.specs.Print.{print_of, text_length, print_verdict, print_outcome, print_answers, print_memory}
use Rattle.lengths.specs.Figures.{figures_for, lengths_of}
use Rattle.reference.specs.State.{State}
use Rattle.reference.specs.Table.{Call}
use Rattle.reference.specs.Calls.{reply, after_call}
use Rattle.reference.proofs.RespondLaws.{reply_same, after_call_same}
use Rattle.encoding.specs.Places.{state_size}
use Rattle.encoding.specs.Valid.{record_valid, carrier_valid, place_valid, channel_valid, pair_valid, valid}
use Rattle.encoding.specs.Calls.{machine_of, place_verdict, state_verdict, state_in, fresh_memory, reply_to, memory_after}
use Rattle.trial.specs.Entry.{order_by, trial_verdict, trial_of, trial_outcome, state_tried, report_tried}
use Rattle.demands.specs.Demand2.{SameOutcomes}
use Rattle.trial.specs.Report.{report_numbers}
use Rattle.listing.specs.Runs.{Run, runs_of, total, run_at}
use Rattle.lister.specs.Entry.{total_of, run_of_rank, run_numbers, small_verdict, rank_verdict, rank_outcome, report_listed}
use Rattle.blockers.specs.Blockers.{blockers_of}
use Rattle.blockers.specs.Entry.{carrier_verdict, blockers_verdict, blockers_outcome, blockers_memory}
use Rattle.demands.proofs.SameBlockerLaws.{set_same}
use Rattle.demands.proofs.SameTrialLaws.{trial_same}
use Rattle.demands.proofs.SameRunLaws.{runs_same, reports_same}

-- Lines of as many docks begin at the same columns.
pub columns_same : (f f' : Floor) (n : ℕ) → All (λ (i : ℕ). count_of f i ≡ count_of f' i) n → carrier_at f n ≡ carrier_at f' n
unfolding carrier_at
columns_same f f' zero a = refl
columns_same f f' (suc n) a = rw (columns_same f f' n (λ i l. a i (omega arith)), a n (omega arith))

-- Floors that differ at most in the order of docks, with walls that agree up to their count.
module _ (f : Floor) (ws : List ℕ) (f' : Floor) (ws' : List ℕ) (same : SameDocks f f')
    (cells : All (λ (j : ℕ). get_or ws j 0 ≡ get_or ws' j 0) f.walls) where
  agrees : AgreeUpTo f.carriers f ws f' ws'
  agrees = docks_agree f ws f' ws' same cells

  pub length_same : sheet_length f ≡ sheet_length f'
  unfolding sheet_length wall_at
  length_same = rw (columns_same f f' f.carriers same.outline.counts, same.outline.carriers, same.outline.walls)

  responses : (i : ℕ) (views : List View) → i < f.carriers → length views ≡ i → respond_of f ws i views ≡ respond_of f' ws' i views
  responses i views l e = respond_same f.carriers f ws f' ws' agrees i views l (omega arith)

  plans : plan_of f ws ≡ plan_of f' ws'
  plans = plans_agree f ws f' ws' agrees same.outline.carriers

  line_same : (i : ℕ) (x : Answer) → answer_line f i x ≡ answer_line f' i x
  unfolding answer_line
  line_same i none = refl
  line_same i (route r) = rw same.outline.horizon

  first_same : first_line f (failing_of (plan_of f ws)) ≡ first_line f' (failing_of (plan_of f' ws'))
  unfolding first_line
  first_same = rw (plans, same.outline.carriers)

  others_same : lines_of (λ i. answer_line f i (answer_at (plan_of f ws) i)) f.carriers ≡
      lines_of (λ i. answer_line f' i (answer_at (plan_of f' ws') i)) f'.carriers
  others_same =
      lines_same (λ i. answer_line f i (answer_at (plan_of f ws) i)) (λ i. answer_line f' i (answer_at (plan_of f' ws') i)) f.carriers
      (λ i l. line_same i (answer_at (plan_of f ws) i) ∙ ap (λ (xs : List Answer). answer_line f' i (answer_at xs i)) plans)
      ∙ ap (λ (n : ℕ). lines_of (λ i. answer_line f' i (answer_at (plan_of f' ws') i)) n) same.outline.carriers

  texts : print_of f ws ≡ print_of f' ws'
  unfolding print_of routes_text
  texts = ap₂ (λ (xs ys : List ℕ). xs ++ ys) first_same others_same

  module _ (checks : check_of f ws ≡ check_of f' ws') where
    lengths : figures_for f ≡ figures_for f'
    unfolding figures_for limits_of lengths_of text_length
    lengths =
        let outline = same.outline in rw (
          length_same,
          outline.width,
          outline.height,
          outline.horizon,
          outline.depth,
          outline.carriers,
          outline.walls,
        )

    pub write : (lent : ℕ) → write_verdict f ws lent ≡ write_verdict f' ws' lent
    unfolding write_verdict
    write lent = rw (checks, length_same)

    search : (i : ℕ) (m : List ℕ) → search_of f ws i m ≡ search_of f' ws' i m
    search i m = searches_agree f ws f' ws' agrees same.outline.carriers checks i m

    plan_verdict_lem : (lent : ℕ) → plan_verdict f ws lent ≡ plan_verdict f' ws' lent
    unfolding plan_verdict
    plan_verdict_lem lent = rw (checks, same.outline.carriers)

    plan : (lent : ℕ) → plan_result f ws lent ≡ plan_result f' ws' lent
    unfolding plan_result
    plan lent = rw (plan_verdict_lem lent, plans)

    answers : (old : List ℕ) → plan_memory f ws old ≡ plan_memory f' ws' old
    unfolding plan_memory
    answers old = rw (plan_verdict_lem (length old), plans)

    print_verdict_lem : (lent bytes : ℕ) → print_verdict f ws lent bytes ≡ print_verdict f' ws' lent bytes
    unfolding print_verdict text_length
    print_verdict_lem lent bytes = rw (plan_verdict_lem lent, same.outline.carriers)

    place : (lent : ℕ) → place_verdict f ws lent ≡ place_verdict f' ws' lent
    unfolding place_verdict
    place lent = rw (checks, same.outline.carriers)

    states : (m : List ℕ) → state_verdict f ws m ≡ state_verdict f' ws' m
    unfolding state_verdict valid carrier_valid pair_valid channel_valid place_valid record_valid
    states m =
        let outline = same.outline in rw (
          place (length m),
          outline.width,
          outline.height,
          outline.horizon,
          outline.depth,
          outline.carriers,
        )

    -- The two machines differ only in the responses of carriers that are not there.
    replies : (s : State) (x : Call) → reply (machine_of f ws) s x ≡ reply (machine_of f' ws') s x
    unfolding machine_of
    replies s x =
        reply_same f.carriers f.depth (state_size f.carriers) (respond_of f ws) (respond_of f' ws') responses s x
        ∙ rw (same.outline.carriers, same.outline.depth) refl

    next_states : (s : State) (x : Call) → after_call (machine_of f ws) s x ≡ after_call (machine_of f' ws') s x
    unfolding machine_of
    next_states s x =
        after_call_same f.carriers f.depth (state_size f.carriers) (respond_of f ws) (respond_of f' ws') responses s x
        ∙ rw (same.outline.carriers, same.outline.depth) refl

    call : (m : List ℕ) (x : Call) → reply_to f ws m x ≡ reply_to f' ws' m x
    unfolding reply_to
    call m x = rw (states m, replies (state_in f m) x, same.outline.carriers)

    memory : (m : List ℕ) (x : Call) → memory_after f ws m x ≡ memory_after f' ws' m x
    unfolding memory_after
    memory m x = rw (states m, next_states (state_in f m) x, same.outline.carriers)

    trials : (order seed : ℕ) → trial_of f ws order seed ≡ trial_of f' ws' order seed
    unfolding trial_of machine_of
    trials order seed =
        trial_same f.carriers f.depth (state_size f.carriers) (respond_of f ws) (respond_of f' ws') responses (order_by order) seed
        ∙ rw (same.outline.carriers, same.outline.depth) refl

    trial_verdict_lem : (order state report : ℕ) → trial_verdict f ws order state report ≡ trial_verdict f' ws' order state report
    unfolding trial_verdict
    trial_verdict_lem order state report = rw (place state, same.outline.carriers)

    trial : (order seed state report : ℕ) → trial_outcome f ws order seed state report ≡ trial_outcome f' ws' order seed state report
    unfolding trial_outcome
    trial order seed state report = rw (trial_verdict_lem order state report, trials order seed)

    trial_state : (order seed : ℕ) (old : List ℕ) (report : ℕ)
        → state_tried f ws order seed old report ≡ state_tried f' ws' order seed old report
    unfolding state_tried
    trial_state order seed old report = rw (trial_verdict_lem order (length old) report, trials order seed, same.outline.carriers)

    trial_report : (order seed state : ℕ) (old : List ℕ) → report_tried f ws order seed state old ≡ report_tried f' ws' order seed state old
    unfolding report_tried
    trial_report order seed state old = rw (trial_verdict_lem order state (length old), trials order seed)

    all_runs : runs_of (machine_of f ws) ≡ runs_of (machine_of f' ws')
    unfolding machine_of
    all_runs =
        runs_same f.carriers f.depth (state_size f.carriers) (respond_of f ws) (respond_of f' ws') responses
        ∙ rw (same.outline.carriers, same.outline.depth) refl

    totals : total_of f ws ≡ total_of f' ws'
    unfolding total_of total
    totals = ap length all_runs

    listed : (rank : ℕ) → run_of_rank f ws rank ≡ run_of_rank f' ws' rank
    unfolding run_of_rank run_at
    listed rank = ap (λ (xs : List Run). get_or xs rank []) all_runs

    run_numbers_lem : (rank : ℕ) → run_numbers f ws rank ≡ run_numbers f' ws' rank
    unfolding run_numbers run_of_rank machine_of
    run_numbers_lem rank =
        ap report_numbers
        (reports_same f.carriers f.depth (state_size f.carriers) (respond_of f ws) (respond_of f' ws') responses rank
        ∙ rw (same.outline.carriers, same.outline.depth) refl)

    rank_verdict_lem : (rank report : ℕ) → rank_verdict f ws rank report ≡ rank_verdict f' ws' rank report
    unfolding rank_verdict small_verdict
    rank_verdict_lem rank report = rw (checks, totals, same.outline.carriers)

    run_of_rank_lem : (rank report : ℕ) → rank_outcome f ws rank report ≡ rank_outcome f' ws' rank report
    unfolding rank_outcome
    run_of_rank_lem rank report = rw (rank_verdict_lem rank report, totals, listed rank)

    run_report : (rank : ℕ) (old : List ℕ) → report_listed f ws rank old ≡ report_listed f' ws' rank old
    unfolding report_listed
    run_report rank old = rw (rank_verdict_lem rank (length old), run_numbers_lem rank)

    blockers_verdict_lem : (carrier lent : ℕ) → blockers_verdict f ws carrier lent ≡ blockers_verdict f' ws' carrier lent
    unfolding blockers_verdict carrier_verdict
    blockers_verdict_lem carrier lent = rw (plan_verdict_lem lent, plans, same.outline.carriers)

    blockers : (carrier lent : ℕ) → blockers_outcome f ws carrier lent ≡ blockers_outcome f' ws' carrier lent
    unfolding blockers_outcome
    blockers carrier lent =
        gives_same (blockers_verdict f ws carrier lent) _ _ (set_same f ws f' ws' plans responses carrier lent)
        ∙ ap (λ (x : Verdict). x gives blockers_of f' ws' (carrier - 1)) (blockers_verdict_lem carrier lent)

    -- A record that is checked is one of a carrier that is there.
    record_task : (carrier lent : ℕ) → record_verdict f ws carrier lent ≡ passed → task_of f ws carrier ≡ task_of f' ws' carrier
    record_task carrier lent e =
        let listed = (verdict_granted f ws carrier lent e).listed in
        let one : carrier - 1 + 1 ≡ carrier = omega (arith, listed.0) in
        rw one at (task_same f.carriers f ws f' ws' agrees (carrier - 1) (omega (arith, listed.0, listed.1)))

    check_record : (carrier : ℕ) (m : List ℕ) → record_outcome f ws carrier m ≡ record_outcome f' ws' carrier m
    unfolding record_outcome record_verdict
    check_record carrier m =
        gives_same (record_verdict f ws carrier (length m)) _ _
        (λ e. ap (λ (task : Task). record_answer task m) (record_task carrier (length m) e))
        ∙ rw (checks, same.outline.carriers) refl

    pub same_outcomes : SameOutcomes f ws f' ws'
    unfolding print_outcome print_answers print_memory fresh_memory blockers_memory
    same_outcomes =
        record {
          check = checks;
          lengths = lengths;
          write = write;
          search = search;
          plan = plan;
          answers = answers;
          print = λ lent bytes. rw (print_verdict_lem lent bytes, texts);
          printed_answers = λ bytes old. rw (print_verdict_lem (length old) bytes, plans);
          text = λ lent old. rw (print_verdict_lem lent (length old), texts);
          fresh = place;
          fresh_memory_lem = λ old. rw (place (length old), same.outline.carriers);
          call = call;
          memory = memory;
          trial = trial;
          trial_state = trial_state;
          trial_report = trial_report;
          run_of_rank_lem = run_of_rank_lem;
          run_report = run_report;
          blockers = blockers;
          check_record = check_record;
          blockers_answers = λ carrier old. rw (blockers_verdict_lem carrier (length old), plans);
        }
