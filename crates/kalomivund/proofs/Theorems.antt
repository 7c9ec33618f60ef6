-- The claims of the exported functions, proved.
use Prim.Native.Nat.{ℕ, ◌+◌, ◌*◌, ◌≤◌}
use native.Mathlib.Omega.{arith}
use native.Mathlib.Nat.{zero-add}
use mathlib.Core.Path.{◌≡◌, refl, ◌∙◌}
use Rattle.laws.specs.Verdict.{demand, ◌gives◌}
use Rattle.floor.specs.Checks.{within}
use Rattle.lengths.specs.Figures.{lengths_of}
use Rattle.reference.specs.Quiescent.{ceiling}
use Rattle.machine.specs.Ceiling.{most_steps}
use Rattle.abi.specs.Word.{packed, capped_at, word_of, map_outcome, of_number}
use Rattle.abi.proofs.WordLaws.{capped_same}
use Rattle.kalomivund.specs.Answers.{of_search, answer_done, of_reply, told_done, step_case, end_case, of_rank, figures_done}
use Rattle.kalomivund.specs.Answers.{of_conflict, conflict_done, of_record, record_done}
use Rattle.kalomivund.specs.Entries.{ceiling_word}
use Rattle.kalomivund.specs.Claims.{Claims}
use Rattle.kalomivund.proofs.LentLaws.{read_record_lem, read_walls_lem, write_sheet_lem, needed_lengths, search, plan, fresh, print_routes}
use Rattle.kalomivund.proofs.CallLaws.{step, run}
use Rattle.kalomivund.proofs.TrialLaws.{trial_state, trial_report}
use Rattle.kalomivund.proofs.RankLaws.{run_report}
use Rattle.kalomivund.proofs.BlockerLaws.{blockers}
use Rattle.kalomivund.proofs.ShortLaws.{record_short, read_record_short, route_short, figures_short}

-- A run's number has room in a word.
run_word_lem : (k t : ℕ) → k ≤ 8 → t ≤ 65535 → packed 0 k t ≡ 256 * k + 65536 * t
unfolding packed
run_word_lem k t lc lt = rw (capped_same 255 k (omega arith), capped_same 281474976710655 t (omega arith)) (omega arith)

pub theorems : Claims
unfolding lengths_of ceiling_word most_steps ceiling demand within ◌gives◌ of_number of_search answer_done of_reply told_done step_case end_case
    of_rank figures_done of_conflict conflict_done of_record record_done map_outcome word_of packed capped_at
theorems =
    record {
      read_record_lem = read_record_lem;
      read_walls_lem = read_walls_lem;
      write_sheet_lem = write_sheet_lem;
      needed_lengths = needed_lengths;
      search = search;
      plan = plan;
      fresh = fresh;
      step = step;
      run = run;
      trial_state = trial_state;
      trial_report = trial_report;
      run_report = run_report;
      blockers = blockers;
      print_routes = print_routes;
      record_short = λ f. record_short;
      read_record_short = read_record_short;
      route_short = route_short;
      figures_short = figures_short;
      kept_word_lem = refl;
      sent_word_lem = refl;
      delivered_word_lem = refl;
      silent_word = λ t l. run_word_lem 0 t (omega arith) l ∙ zero-add (65536 * t);
      spent_word = λ t l. run_word_lem 1 t (omega arith) l;
      ended_word = λ t l. run_word_lem 2 t (omega arith) l;
      trial_word_lem = λ t l. run_word_lem 0 t (omega arith) l ∙ zero-add (65536 * t);
      run_word_lem = refl;
      none_word_lem = refl;
      route_word = λ r. refl;
      free_word = refl;
      same_cell_word = λ t l. run_word_lem 1 t (omega arith) (omega arith);
      change_word = λ t l. run_word_lem 2 t (omega arith) (omega arith);
      following_word = λ t l. run_word_lem 3 t (omega arith) (omega arith);
      legal_word = λ a l. run_word_lem 0 a (omega arith) (omega arith) ∙ zero-add (65536 * a);
      legal_none_word = refl;
      unheard_word = refl;
      wrong_word = λ k t l h. run_word_lem k t l (omega arith);
      arrival_word_lem = λ a l. run_word_lem 0 a (omega arith) (omega arith) ∙ zero-add (65536 * a);
      set_word = refl;
      cause_word = refl;
      early_word = refl;
      short_word = refl;
      order_word = refl;
      empty_word = refl;
      full_word = refl;
      small_word = refl;
      rank_word_lem = refl;
      has_route_word = refl;
      dock_twice_word = refl;
      ceiling_words = (refl, refl, refl);
    }
