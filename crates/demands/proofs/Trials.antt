-- Trials, proved: what holds of every machine's trials, for the machine of an accepted floor.
use Prim.Native.Nat.{ℕ, ◌+◌, ◌*◌, ◌≤◌}
use native.Mathlib.Nat.{zero-add}
use native.Mathlib.Omega.{arith}
use mathlib.Core.List.{List, [], ◌∷◌, ◌++◌}
use mathlib.Core.Path.{◌≡◌, refl, ◌∙◌}
use lib.ListN.{length, drop}
use borrow.Author.Tests.{le-leb}
use Rattle.laws.specs.Memory.{put}
use Rattle.laws.specs.Verdict.{passed}
use Rattle.laws.proofs.VerdictLaws.{then_passed, demand_passes, gives_passed, when_passed_lem}
use Rattle.floor.specs.declared.Floor.{Floor}
use Rattle.floor.specs.Checks.{check_of, long_enough, within}
use Rattle.floor.specs.Accepted.{Within}
use Rattle.floor.proofs.LimitsLaws.{check_tells, within_means}
use Rattle.planner.specs.Plan.{plan_of}
use Rattle.lengths.specs.Figures.{lengths_of}
use Rattle.reference.specs.State.{State, fresh}
use Rattle.reference.specs.Table.{Call}
use Rattle.reference.specs.Calls.{after, after_call}
use Rattle.encoding.specs.Calls.{machine_of, place_verdict}
use Rattle.encoding.specs.Ranges.{WithinRanges}
use Rattle.encoding.proofs.FloorLaws.{depth_some}
use Rattle.encoding.proofs.ExactLaws.{fresh_fits}
use Rattle.encoding.proofs.SimulationLaws.{call_fits}
use Rattle.orders.specs.Orders.{round}
use Rattle.orders.specs.Trial.{Entry, trial}
use Rattle.orders.specs.Claims.{calls_of}
use Rattle.orders.proofs.Theorems.{theorems as orders-theorems}
use Rattle.trial.specs.Report.{report_numbers}
use Rattle.trial.specs.Entry.{order_by, trial_verdict, trial_of, trial_outcome, state_tried, report_tried}
use Rattle.trial.proofs.ReportLaws.{numbers_length}
use Rattle.trial.proofs.EntryLaws.{front_is}
use Rattle.demands.specs.Trials.{Tries, TrialTells, Trials}

-- Calls keep a state within the ranges, and a trial is a list of calls from fresh.
calls_fit : (f : Floor) (ws : List ℕ) → check_of f ws ≡ passed → (s : State) → WithinRanges f s → (xs : List Call)
    → WithinRanges f (after (machine_of f ws) s xs)
unfolding after
calls_fit f ws ok s fits [] = fits
calls_fit f ws ok s fits (x ∷ xs) = calls_fit f ws ok (after_call (machine_of f ws) s x) (call_fits f ws ok s fits x) xs

last_fits : (f : Floor) (ws : List ℕ) (order seed : ℕ) → check_of f ws ≡ passed → WithinRanges f (trial_of f ws order seed).state
unfolding trial_of
last_fits f ws order seed ok =
    let M = machine_of f ws in
    let same = orders-theorems.state_same (order_by order) M seed M.needed (omega arith) in
    rw (← same) (calls_fit f ws ok fresh (fresh_fits f) (calls_of M.needed (trial (order_by order) M seed).report))

tries : (f : Floor) (ws : List ℕ) (order seed : ℕ) → check_of f ws ≡ passed → Tries f ws order seed
unfolding trial_of machine_of plan_of lengths_of
tries f ws order seed ok =
    let M = machine_of f ws in
    let o = order_by order in
    record {
      by_rule = orders-theorems.by_rule o M seed;
      leads = orders-theorems.leads o M seed;
      answered = λ lent l. orders-theorems.replies_same o M seed lent l;
      silent = orders-theorems.ends_silent o M seed;
      within_ceiling = orders-theorems.within_ceiling o M seed;
      within_ranges = last_fits f ws order seed ok;
      plan_answers = orders-theorems.sequential_answers o M seed (depth_some f ws ok);
    }

-- The lines of a report in the front of a memory.
front_lines : (r : List ℕ) (xs : List Entry) → put r 0 (report_numbers xs) ≡ report_numbers xs ++ drop (2 * length xs) r
unfolding put
front_lines r xs = rw (numbers_length xs, zero-add)

tells : (f : Floor) (ws : List ℕ) (order seed : ℕ) (m r : List ℕ) → check_of f ws ≡ passed → (lengths_of f).state ≤ length m
    → (lengths_of f).report ≤ length r → Within 1 3 order → TrialTells f ws order seed m r
unfolding lengths_of trial_verdict place_verdict long_enough trial_outcome state_tried report_tried
tells f ws order seed m r ok lm lr w =
    let passes : trial_verdict f ws order (length m) (length r) ≡ passed =
    then_passed (then_passed ok ∙ demand_passes 9 0 (le-leb _ _ lm))
    ∙ then_passed (demand_passes 9 0 (le-leb _ _ lr))
    ∙ demand_passes 11 0 ((within_means 1 3 order).1 w) in
    record {
      steps = gives_passed passes;
      state = when_passed_lem m passes ∙ front_is f.carriers m (trial_of f ws order seed).state;
      lines = when_passed_lem r passes ∙ front_lines r (trial_of f ws order seed).report;
    }

pub theorem : Trials
unfolding trial_of machine_of order_by
theorem =
    record {
      tries = tries;
      tells = tells;
      within_a_round = λ f ws seed x xs ys zs ok e h.
          orders-theorems.within_a_round (machine_of f ws) seed x xs ys zs (check_tells f ws ok).bounds.carriers.0 e h;
    }
