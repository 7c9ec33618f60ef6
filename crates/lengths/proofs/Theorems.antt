-- The claims of the needed lengths, proved.
use Prim.Native.Nat.{ℕ, ◌*◌, ◌≤◌, ◌<◌}
use native.Mathlib.Omega.{arith}
use native.Mathlib.Decide.{dec_le}
use mathlib.Core.Path.{◌≡◌, refl, sym, ◌∙◌}
use mathlib.Core.Logic.{◌↔◌, ⊎_elim}
use mathlib.Core.List.{List}
use borrow.Author.Tests.{leb-false, lt-leb, le-leb}
use Rattle.floor.specs.declared.Floor.{Floor}
use Rattle.laws.specs.Verdict.{passed, refused, demand, value, refusal, ◌then_answers◌, when_passed}
use Rattle.floor.specs.Checks.{check_of, long_enough, within}
use Rattle.laws.proofs.VerdictLaws.{then_cases, then_passed, then_refused, demand_cases, demand_refuses, demand_passes, gives_passed}
use Rattle.floor.proofs.LimitsLaws.{check_tells}
use Rattle.floor.specs.Refused.{RefusedWith, outside_limit, few_walls, carrier_outside, wall_outside, not_rising, on_wall, shared, repeated}
use Rattle.sheet.specs.Refused.{RefusedSheet, head_form, rest_form_lem, floor_row, outside_limit as outside-limit-row}
use Rattle.sheet.proofs.FormLaws.{walls_length}
use Rattle.sheet.specs.Values.{walls_at, floor_at}
use lib.ListN.{length}
use Rattle.sheet.specs.Text.{sheet_length}
use Rattle.sheet.specs.Read.{sheet_verdict, read_verdict, write_verdict}
use Rattle.sheet.proofs.Theorems.{theorems as sheet-theorems}
use Rattle.search.specs.Search.{request_of}
use Rattle.planner.specs.Plan.{plan_verdict}
use Rattle.printing.specs.Print.{text_length, print_verdict, routes_of, needed_for, short_outcome, routes_outcome}
use Rattle.encoding.specs.Places.{state_size}
use Rattle.encoding.specs.Calls.{place_verdict}
use Rattle.encoding.proofs.Theorems.{theorems as layout-theorems}
use Rattle.trial.specs.Report.{report_size}
use Rattle.trial.specs.Entry.{trial_verdict}
use Rattle.trial.proofs.Theorems.{theorems as trial-theorems}
use Rattle.lengths.specs.Figures.{figures_for, lengths_of}
use Rattle.lengths.specs.Claims.{Claims}
use Rattle.lengths.proofs.SheetLaws.{sheet_low}

-- A record is refused with 9 only where too few walls are lent.
record_nine : (f : Floor) (ws : List ℕ) (k p : ℕ) → f.walls ≤ length ws → RefusedWith f ws k p → k ≡ 9 → ⊥
record_nine f ws k p e (outside_limit h) n = omega arith
record_nine f ws k p e (few_walls l h) n = omega arith
record_nine f ws k p e (carrier_outside l m h) n = omega arith
record_nine f ws k p e (wall_outside l m a h) n = omega arith
record_nine f ws k p e (not_rising l m a b h) n = omega arith
record_nine f ws k p e (on_wall l m a b c h) n = omega arith
record_nine f ws k p e (shared l m a b c d h) n = omega arith
record_nine f ws k p e (repeated l m a b c d g h) n = omega arith

-- A sheet is never refused with 9 before the lent length is looked at.
sheet_nine : (text : List ℕ) (k p : ℕ) → RefusedSheet text k p → k ≡ 9 → ⊥
sheet_nine text k p (head_form b) n = omega arith
sheet_nine text k p (outside-limit-row a h) n = omega arith
sheet_nine text k p (rest_form_lem a l b) n = omega arith
sheet_nine text k p (floor_row a l b r) n = record_nine (floor_at text) (walls_at text) k p (omega (arith, walls_length text)) r n

-- Memory is too short exactly below its needed length.
pub length_means : (needed lent : ℕ) → (long_enough needed lent ≡ refused 9 0) ↔ (lent < needed)
unfolding long_enough
length_means needed lent = (λ h. leb-false _ _ (demand_cases _ 9 0 9 0 h).0, λ l. demand_refuses 9 0 (lt-leb _ _ l))

walls_too_short : (text : List ℕ) (lent : ℕ) → (read_verdict text lent ≡ refused 9 0) ↔ ((sheet_verdict text ≡ passed) ×
    (lent < (floor_at text).walls))
unfolding read_verdict
walls_too_short text lent = (
  λ h.
      ⊎_elim
      (λ (e : sheet_verdict text ≡ refused 9 0). absurd (sheet_nine text 9 0 ((sheet-theorems.refuses_exactly text 9 0).0 e) refl))
      (λ (e : (sheet_verdict text ≡ passed) × (long_enough (floor_at text).walls lent ≡ refused 9 0)). (e.0, (length_means _ _).0 e.1))
      (then_cases (sheet_verdict text) (long_enough (floor_at text).walls lent) 9 0 h),
  λ h. then_passed h.0 ∙ (length_means _ _).1 h.1,
)

sheet_too_short : (f : Floor) (ws : List ℕ) (lent : ℕ) → check_of f ws ≡ passed
    → (write_verdict f ws lent ≡ refused 9 0) ↔ (lent < sheet_length f)
unfolding write_verdict
sheet_too_short f ws lent ok = (λ h. (length_means _ _).0 (sym (then_passed ok) ∙ h), λ l. then_passed ok ∙ (length_means _ _).1 l)

answers_too_short : (f : Floor) (ws : List ℕ) (lent : ℕ) → check_of f ws ≡ passed → (plan_verdict f ws lent ≡ refused 9 0) ↔
    (lent < 65 * f.carriers)
unfolding plan_verdict
answers_too_short f ws lent ok = (λ h. (length_means _ _).0 (sym (then_passed ok) ∙ h), λ l. then_passed ok ∙ (length_means _ _).1 l)

views_too_short : (f : Floor) (ws : List ℕ) (i : ℕ) (m : List ℕ) → check_of f ws ≡ passed → (request_of f ws i m ≡ refused 9 0) ↔
    (length m < 65 * f.carriers)
unfolding request_of
views_too_short f ws i m ok = (
  λ h.
      ⊎_elim
      (λ (e : long_enough (65 * f.carriers) (length m) ≡ refused 9 0). (length_means _ _).0 e)
      (λ (e : (long_enough (65 * f.carriers) (length m) ≡ passed) × (demand (within 1 f.carriers i) 7 0 ≡ refused 9 0)).
      absurd (omega (arith, (demand_cases _ 7 0 9 0 e.1).1)))
      (then_cases (long_enough (65 * f.carriers) (length m)) (demand (within 1 f.carriers i) 7 0) 9 0 (sym (then_passed ok) ∙ h)),
  λ l. then_passed ok ∙ then_refused _ ((length_means _ _).1 l),
)

state_too_short : (f : Floor) (ws : List ℕ) (lent : ℕ) → check_of f ws ≡ passed
    → (place_verdict f ws lent ≡ refused 9 0) ↔ (lent < state_size f.carriers)
unfolding place_verdict
state_too_short f ws lent ok = (λ h. (length_means _ _).0 (sym (then_passed ok) ∙ h), λ l. then_passed ok ∙ (length_means _ _).1 l)

report_too_short : (f : Floor) (ws : List ℕ) (order state report : ℕ) → check_of f ws ≡ passed → state_size f.carriers ≤ state
    → (trial_verdict f ws order state report ≡ refused 9 0) ↔ (report < report_size f.carriers)
unfolding trial_verdict place_verdict long_enough
report_too_short f ws order state report ok l =
    let placed : place_verdict f ws state ≡ passed = then_passed ok ∙ demand_passes 9 0 (le-leb _ _ l) in
    let reported = long_enough (report_size f.carriers) report in
    let known = demand (within 1 3 order) 11 0 in (
      λ h.
          ⊎_elim
          (λ (e : reported ≡ refused 9 0). (length_means _ _).0 e)
          (λ (e : (reported ≡ passed) × (known ≡ refused 9 0)). absurd (omega (arith, (demand_cases _ 11 0 9 0 e.1).1)))
          (then_cases reported known 9 0 (sym (then_passed placed) ∙ h)),
      λ b. then_passed placed ∙ then_refused _ ((length_means _ _).1 b),
    )

text_too_short : (f : Floor) (ws : List ℕ) (lent bytes : ℕ) → check_of f ws ≡ passed → 65 * f.carriers ≤ lent
    → (print_verdict f ws lent bytes ≡ refused 9 0) ↔ (bytes < text_length f)
unfolding print_verdict plan_verdict long_enough
text_too_short f ws lent bytes ok l =
    let planned : plan_verdict f ws lent ≡ passed = then_passed ok ∙ demand_passes 9 0 (le-leb _ _ l) in
    (λ h. (length_means _ _).0 (sym (then_passed planned) ∙ h), λ b. then_passed planned ∙ (length_means _ _).1 b)

sheet_text_too_short : (text : List ℕ) (bytes : ℕ) → sheet_verdict text ≡ passed
    → (routes_outcome text bytes ≡ refusal 9 0) ↔ (bytes < text_length (floor_at text))
unfolding routes_outcome short_outcome needed_for when_passed ◌then_answers◌
sheet_text_too_short text bytes ok = (λ h. short h (dec_le (text_length (floor_at text)) bytes), λ l. rw (ok, lt-leb _ _ l))
  where
    short : routes_outcome text bytes ≡ refusal 9 0 → Dec (text_length (floor_at text) ≤ bytes) → bytes < text_length (floor_at text)
    short h (no q) = omega arith
    short h (yes q) =
        let e : routes_outcome text bytes ≡ value (length (routes_of text)) = rw (ok, le-leb _ _ q) in
        let z : ◌≡◌ {A = ℕ} 0 1 = cc in
        absurd (omega arith)

pub theorems : Claims
unfolding figures_for lengths_of text_length
theorems =
    record {
      accepted_known = λ f ws ok. gives_passed (check_tells f ws ok).limited;
      walls_within = λ f ws ok. omega (arith, (check_tells f ws ok).bounds.walls.1);
      sheet_within = λ f ws ok. omega (arith, sheet_low f ws ok);
      sheet_longest = sheet_low;
      answers_within = λ f ws ok. omega (arith, (check_tells f ws ok).bounds.carriers.1);
      text_within = λ f ws ok. omega (arith, (check_tells f ws ok).bounds.carriers.1);
      state_within = λ f ws ok. layout-theorems.size_small f (check_tells f ws ok).bounds.carriers.1;
      route_within = λ f. omega arith;
      floor_within = λ f. omega arith;
      figures_within = λ f. omega arith;
      report_within = λ f ws ok. trial-theorems.report_small f.carriers (check_tells f ws ok).bounds.carriers.1;
      answers_too_short = answers_too_short;
      views_too_short = views_too_short;
      walls_too_short = walls_too_short;
      sheet_too_short = sheet_too_short;
      text_too_short = text_too_short;
      sheet_text_too_short = sheet_text_too_short;
      state_too_short = state_too_short;
      report_too_short = report_too_short;
    }
