-- Trials (document 02, slip 1): for every accepted floor, every order and every seed, a trial is a history of the reference machine from
-- fresh to silent by the order's rule. The definitions are those that the contract of `trial::trial` cites.
use Rattle.std.specs.Prelude.{ℕ, ◌+◌, ◌*◌, ◌/◌, ◌≤◌, ◌<◌, true, List, ◌++◌, ◌≡◌, length, drop}
use Rattle.laws.specs.Verdict.{passed, value}
use Rattle.floor.specs.declared.Floor.{Floor}
use Rattle.floor.specs.Checks.{check_of}
use Rattle.floor.specs.Accepted.{Within}
use Rattle.planner.specs.Plan.{plan_of}
use Rattle.lengths.specs.Figures.{lengths_of}
use Rattle.reference.specs.Ranges.{below}
use Rattle.reference.specs.State.{Machine, State, fresh}
use Rattle.reference.specs.Step.{Step}
use Rattle.reference.specs.Ranking.{is_silent}
use Rattle.reference.specs.History.{after_steps}
use Rattle.reference.specs.Calls.{replies}
use Rattle.reference.specs.Quiescent.{ceiling}
use Rattle.encoding.specs.Encode.{encode}
use Rattle.encoding.specs.Ranges.{WithinRanges}
use Rattle.encoding.specs.Calls.{machine_of}
use Rattle.orders.specs.Orders.{Order, start_memory}
use Rattle.orders.specs.Trial.{Entry, steps_in}
use Rattle.orders.specs.Rules.{FollowsOrder, PassedOver}
use Rattle.orders.specs.Claims.{calls_of, replies_of}
use Rattle.trial.specs.Report.{report_numbers}
use Rattle.trial.specs.Entry.{order_by, trial_of, trial_outcome, state_tried, report_tried}

module _ (f : Floor) (ws : List ℕ) (order seed : ℕ) where
  -- The reference machine of the floor, the report of the trial, and the state after it.
  abbrev M : Machine
  M = machine_of f ws

  abbrev report : List Entry
  report = (trial_of f ws order seed).report

  abbrev last : State
  last = (trial_of f ws order seed).state

  -- What holds of the trial of an accepted floor.
  pub record Tries : Type 0 where
    -- Every step reported was open when it was taken, is the one that the order's rule takes, and has the machine's answer.
    pub by_rule : FollowsOrder (order_by order) M (start_memory (order_by order) seed) fresh report
    -- The steps lead from fresh to the last state; single calls of them are answered as reported.
    pub leads : last ≡ after_steps M fresh (steps_in report)
    pub answered : (lent : ℕ) → (lengths_of f).state ≤ lent → replies M fresh (calls_of lent report) ≡ replies_of report
    -- The last state is silent, after at most the ceiling's number of steps.
    pub silent : is_silent M last ≡ true
    pub within_ceiling : length report ≤ ceiling f.carriers
    -- It is within the ranges, so that its memory shows every part of it.
    pub within_ranges : WithinRanges f last
    -- Its answers are the sequential planner's.
    pub plan_answers : below f.carriers last.answer ≡ plan_of f ws

  -- What a trial that is not refused answers, and leaves in lent memory m for the state and r for the report.
  pub record TrialTells (m r : List ℕ) : Type 0 where
    -- The number of steps taken.
    pub steps : trial_outcome f ws order seed (length m) (length r) ≡ value (length report)
    -- The last state, and behind it what was there.
    pub state : state_tried f ws order seed m (length r) ≡ encode f.carriers last ++ drop (lengths_of f).state m
    -- Two numbers a step, and behind them what was there.
    pub lines : report_tried f ws order seed (length m) r ≡ report_numbers report ++ drop (2 * length report) r

pub record Trials : Type 0 where
  pub tries : (f : Floor) (ws : List ℕ) (order seed : ℕ) → check_of f ws ≡ passed → Tries f ws order seed
  -- Orders 1 to 3 in memories of the needed lengths are not refused.
  pub tells : (f : Floor) (ws : List ℕ) (order seed : ℕ) (m r : List ℕ) → check_of f ws ≡ passed → (lengths_of f).state ≤ length m
      → (lengths_of f).report ≤ length r → Within 1 3 order → TrialTells f ws order seed m r
  -- Under order 2 a step that stays open is taken within n (n + 1) / 2 taken steps, the taking counted: in a stretch of the trial in which
  -- it is open each time a step is taken, and is not taken, there are fewer steps.
  pub within_a_round : (f : Floor) (ws : List ℕ) (seed : ℕ) (x : Step) (xs ys zs : List Step) → check_of f ws ≡ passed
      → steps_in (trial_of f ws 2 seed).report ≡ xs ++ (ys ++ zs) → PassedOver (machine_of f ws) x (after_steps (machine_of f ws) fresh xs) ys
      → length ys < f.carriers * (f.carriers + 1) / 2
