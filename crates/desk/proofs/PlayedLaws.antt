-- A trial in memory for the most carriers: only its order can be refused, and its text fits 13,217 bytes.
use Prim.Native.Nat.{ℕ, suc, ◌*◌, ◌^◌, ◌≤◌, ◌<◌}
use native.Mathlib.Omega.{arith}
use native.Mathlib.Nat.{pow-le-pow_right}
use mathlib.Core.Path.{◌≡◌, sym, ap, ◌∙◌}
use mathlib.Core.List.{List, ◌++◌}
use mathlib.Core.Logic.{⊎_elim}
use borrow.Author.Tests.{le-leb}
use lib.ListN.{length, take, length-append}
use lib.Seq.{take_at}
use Rattle.laws.specs.Memory.{put}
use Rattle.laws.specs.Verdict.{Verdict, passed, refused, ◌gives◌}
use Rattle.laws.proofs.Tests.{lt_or_le}
use Rattle.laws.proofs.VerdictLaws.{then_passed, demand_passes, demand_cases, when_passed_lem, given_value, given_refusal}
use Rattle.floor.specs.declared.Floor.{Floor}
use Rattle.floor.specs.declared.Refusal.{Refusal}
use Rattle.floor.specs.Checks.{check_of, long_enough, within}
use Rattle.floor.proofs.LimitsLaws.{check_tells}
use Rattle.reference.specs.Quiescent.{ceiling}
use Rattle.encoding.specs.Places.{state_size}
use Rattle.encoding.specs.Calls.{place_verdict}
use Rattle.state.proofs.PlaceLaws.{pairs_most}
use Rattle.printing.specs.Print.{print_of, text_length, or_refusal}
use Rattle.printing.specs.Put.{TextPut}
use Rattle.printing.specs.Text.{refusal_line}
use Rattle.printing.proofs.Theorems.{theorems as printing-theorems}
use Rattle.reporting.specs.Text.{entry_count, report_text, report_length}
use Rattle.reporting.specs.Put.{PutAt}
use Rattle.reporting.proofs.ReportLaws.{report_within}
use Rattle.std.specs.Prelude.{Result, Ok, Err}
use Rattle.floor.specs.Answers.{number_of, outcome_by}
use Rattle.trial.specs.Report.{report_numbers, report_size}
use Rattle.trial.specs.Entry.{trial_verdict, trial_of, tried_outcome, trial_outcome, report_tried}
use Rattle.trial.proofs.ReportLaws.{numbers_length}
use Rattle.trial.proofs.Theorems.{theorems as trial-theorems}
use Rattle.printing.proofs.PrintLaws.{refusal_length}
use Rattle.desk.specs.Text.{order_verdict, played_text}
use Rattle.reporting.proofs.PrintedLaws.{PrintsWithin}

-- The largest figures.
ceiling_most : (n : ℕ) → n ≤ 8 → ceiling n ≤ 502
unfolding ceiling
ceiling_most n l =
    ⊎_elim (λ (h : n < 8). let l : suc n ≤ 8 = omega arith in omega (arith, low (suc n) l))
    (λ (h : 8 ≤ n). let e : n ≡ 8 = omega arith in rw e (omega arith)) (lt_or_le n 8)
  where
    low : (k : ℕ) → k ≤ 8 → 2 ^ k ≤ 256
    low k l = pow-le-pow_right (omega arith) l

size_most : (n : ℕ) → n ≤ 8 → state_size n ≤ 9666
unfolding state_size
size_most n l = omega (arith, pairs_most n l)

module _ (f : Floor) (ws : List ℕ) (ok : check_of f ws ≡ passed) where
  few : f.carriers ≤ 8
  few = (check_tells f ws ok).bounds.carriers.1

  -- In that memory only the order is refused.
  order_decides : (order state report : ℕ) → 9666 ≤ state → 1004 ≤ report → trial_verdict f ws order state report ≡ order_verdict order
  unfolding trial_verdict order_verdict place_verdict long_enough report_size
  order_decides order state report s r =
      let size : state_size f.carriers ≤ state = omega (arith, size_most f.carriers few) in
      let lines : 2 * ceiling f.carriers ≤ report = omega (arith, ceiling_most f.carriers few) in
      then_passed (then_passed ok ∙ demand_passes 9 0 (le-leb _ _ size)) ∙ then_passed (demand_passes 9 0 (le-leb _ _ lines))

  -- A report has at most 502 lines.
  pub report_short : (order seed : ℕ) → length (trial_of f ws order seed).report ≤ 502
  report_short order seed = omega (arith, (trial-theorems.ends f ws order seed ok).within, ceiling_most f.carriers few)

  -- In that memory the answer is the order's verdict, or all steps.
  pub order_says : (order seed state report : ℕ) (x : Result ℕ Refusal) → 9666 ≤ state → 1004 ≤ report
      → tried_outcome x ≡ trial_outcome f ws order seed state report
      → tried_outcome x ≡ (order_verdict order gives length (trial_of f ws order seed).report)
  unfolding trial_outcome
  order_says order seed state report x wide long e =
      e ∙ ap (λ (x : Verdict). x gives length (trial_of f ws order seed).report) (order_decides order state report wide long)

  -- Steps taken, or a refusal.
  module _ (order seed : ℕ) (y : Result ℕ Refusal) (said : tried_outcome y ≡ (order_verdict order gives length (trial_of f ws order seed).report)) where
    pub steps_told : (t : ℕ) → y ≡ Ok t → (order_verdict order ≡ passed) × (t ≡ length (trial_of f ws order seed).report)
    unfolding outcome_by
    steps_told t e = given_value (order_verdict order) _ t (sym (ap tried_outcome e) ∙ said)

    pub steps_low : (t : ℕ) → y ≡ Ok t → t ≤ 502
    steps_low t e = omega (arith, (steps_told t e).1, report_short order seed)

    pub refusal_told : (x : Refusal) → y ≡ Err x → (order_verdict order ≡ refused (number_of x.reason) x.place) × (x.place ≡ 0)
    unfolding order_verdict outcome_by
    refusal_told x e =
        let told = given_refusal (order_verdict order) _ (number_of x.reason) x.place (sym (ap tried_outcome e) ∙ said) in
        (told, omega (arith, demand_cases (within 1 3 order) 11 0 (number_of x.reason) x.place told))

  -- The report's numbers stand in front of its memory.
  pub report_front : (order seed state : ℕ) (old new : List ℕ) (t : ℕ) → 9666 ≤ state → 1004 ≤ length old
      → (order_verdict order ≡ passed) × (t ≡ length (trial_of f ws order seed).report) → new ≡ report_tried f ws order seed state old
      → take (2 * t) new ≡ report_numbers (trial_of f ws order seed).report
  unfolding report_tried put
  report_front order seed state old new t wide long told stores =
      let ok = order_decides order state (length old) wide long ∙ told.0 in
      let xs = (trial_of f ws order seed).report in
      rw (stores ∙ when_passed_lem _ ok) (take_at (report_numbers xs) _ (2 * t) (omega (arith, numbers_length xs, told.1)))

  -- The whole text has at most 13,217 bytes.
  pub routes_within : text_length f ≤ 2659
  unfolding text_length
  routes_within = omega (arith, few)

  pub routes_short : length (print_of f ws) ≤ 2659
  routes_short = omega (arith, printing-theorems.text_within f ws ok, routes_within)

  pub text_short : (order : ℕ) (xs : List ℕ) → length xs ≤ 1004 → length (report_text f.carriers order xs ++ print_of f ws) ≤ 13217
  unfolding report_length entry_count
  text_short order xs l =
      omega (arith, report_within f.carriers order xs, routes_short, length-append (report_text f.carriers order xs) (print_of f ws))

-- A report of at most 502 lines ends by column 10,558.
pub report_ends : (carriers order : ℕ) (xs old new : List ℕ) (n : ℕ) → PutAt (report_text carriers order xs) old 0 new n → length xs ≤ 1004
    → n ≤ 10558
unfolding report_length entry_count
report_ends carriers order xs old new n p l = omega (arith, p.behind, report_within carriers order xs)

-- A text that was put is the trial's, or its refusal's.
module _ (f : Floor) (ws old new : List ℕ) (order seed n : ℕ) where
  pub played_put : (xs : List ℕ) → order_verdict order ≡ passed → xs ≡ report_numbers (trial_of f ws order seed).report
      → TextPut (report_text f.carriers order xs ++ print_of f ws) old new n
      → TextPut (or_refusal (order_verdict order) (played_text f ws order seed)) old new n
  unfolding or_refusal played_text
  played_put xs ok e p = rw (ok, ← e) p

  pub refused_put : (k p : ℕ) → order_verdict order ≡ refused k p → TextPut (refusal_line k p) old new n
      → TextPut (or_refusal (order_verdict order) (played_text f ws order seed)) old new n
  unfolding or_refusal
  refused_put k p h t = rw h t

-- The text of a trial or of its refusal has at most 13,217 bytes.
either_short : (f : Floor) (ws : List ℕ) → check_of f ws ≡ passed → (order seed : ℕ)
    → length (or_refusal (order_verdict order) (played_text f ws order seed)) ≤ 13217
unfolding or_refusal played_text
either_short f ws ok order seed = go (order_verdict order)
  where
    go : (x : Verdict) → length (or_refusal x (played_text f ws order seed)) ≤ 13217
    go passed =
        let xs = (trial_of f ws order seed).report in
        text_short f ws ok order (report_numbers xs) (omega (arith, numbers_length xs, report_short f ws ok order seed))
    go (refused k p) = omega (arith, refusal_length k p)

pub played_within : (order seed : ℕ) → PrintsWithin (λ f ws. or_refusal (order_verdict order) (played_text f ws order seed)) 13217
played_within order seed = record { short = λ f ws ok. either_short f ws ok order seed }
