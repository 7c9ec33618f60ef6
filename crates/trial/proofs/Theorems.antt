-- The claims, proved.
use Rattle.std.proofs.Common.{◌≡◌, ℕ, suc, ◌+◌, ◌*◌, ◌<◌, ◌≤◌, true, false, ltb, leb, ◌⊎◌, List, sym, refl, ◌∙◌, inl, inr, ⊎_elim, arith, ltb-true, le-leb, leb-false}
use Rattle.laws.specs.Verdict.{passed, refused, ◌then◌, demand}
use Rattle.laws.proofs.Tests.{and_fst, and_snd, and_fails}
use Rattle.laws.proofs.VerdictLaws.{then_passed, then_both, then_cases, demand_cases, demand_passes}
use Rattle.floor.specs.declared.Floor.{Floor}
use Rattle.floor.specs.Checks.{check_of, long_enough, within}
use Rattle.floor.specs.Refused.{RefusedWith, outside_limit, few_walls, carrier_outside, wall_outside, not_rising, on_wall, shared, repeated}
use Rattle.floor.proofs.LimitsLaws.{length_passed}
use Rattle.floor.proofs.Theorems.{theorems as floor-theorems}
use Rattle.reference.specs.Step.{Step, plan, deliver, is_there}
use Rattle.reference.specs.Table.{step}
use Rattle.reference.specs.Quiescent.{ceiling}
use Rattle.reference.proofs.BoundLaws.{fresh_in_range, reaches_in_range}
use Rattle.reference.proofs.ThroughLaws.{fresh_throughout, reaches_throughout}
use Rattle.encoding.specs.Places.{state_size}
use Rattle.encoding.specs.Numbers.{asked_by}
use Rattle.encoding.specs.Calls.{machine_of, place_verdict}
use Rattle.encoding.specs.Ranges.{Sound}
use Rattle.encoding.proofs.FloorLaws.{none_sound, depth_some, respond_sound}
use Rattle.encoding.proofs.ExactStepLaws.{plan_number, deliver_number}
use Rattle.machine.proofs.CeilingLaws.{power_most}
use Rattle.orders.proofs.TrialLaws.{trial_holds}
use Rattle.orders.proofs.Theorems.{theorems as orders-theorems}
use Rattle.trial.specs.Report.{number_of, report_size}
use Rattle.trial.specs.Entry.{order_by, trial_verdict, trial_of}
use Rattle.trial.specs.Claims.{Ends, Claims}
use Rattle.trial.proofs.ReportLaws.{numbers_length}
use Rattle.trial.proofs.OrderLaws.{high_is, low_is}

ends : (f : Floor) (ws : List ℕ) (order seed : ℕ) → check_of f ws ≡ passed → Ends f ws order seed
unfolding trial_of machine_of report_size
ends f ws order seed ok =
    let M = machine_of f ws in
    let o = order_by order in
    let within = orders-theorems.within_ceiling o M seed in
    let reached = (trial_holds o M seed).reaches in
    let range = reaches_in_range M (fresh_in_range M) reached in
    let None-first = fresh_throughout f.carriers (Sound f) (none_sound f) in
    record {
      silent = orders-theorems.ends_silent o M seed;
      within = within;
      sequential_answers = orders-theorems.sequential_answers o M seed (depth_some f ws ok);
      within_ranges =
          record {
            counted = range.counted;
            channels = range.channels;
            parts = reaches_throughout f.carriers (Sound f) M (respond_sound f ws ok) None-first reached;
          };
      fits = omega (arith, numbers_length (trial_of f ws order seed).report);
    }

-- The checks of a floor and of lent memory have no row 11.
no_row_eleven : {f : Floor} {ws : List ℕ} {k p : ℕ} → RefusedWith f ws k p → k ≡ 11 → ⊥
no_row_eleven (outside_limit h) e = omega arith
no_row_eleven (few_walls h g) e = omega arith
no_row_eleven (carrier_outside h g i) e = omega arith
no_row_eleven (wall_outside h g i j) e = omega arith
no_row_eleven (not_rising h g i j k) e = omega arith
no_row_eleven (on_wall h g i j k l) e = omega arith
no_row_eleven (shared h g i j k l m) e = omega arith
no_row_eleven (repeated h g i j k l m n) e = omega arith

length_not_eleven : (needed lent p : ℕ) → long_enough needed lent ≡ refused 11 p → ⊥
unfolding long_enough
length_not_eleven needed lent p e = let h = demand_cases (leb needed lent) 9 0 11 p e in omega (arith, h.1)

order_outside : (order : ℕ) → within 1 3 order ≡ false → (order < 1) ⊎ (3 < order)
unfolding within
order_outside order e =
    ⊎_elim (λ (h : leb 1 order ≡ false). inl (leb-false 1 order h)) (λ (h : leb order 3 ≡ false). inr (leb-false order 3 h))
    (and_fails (leb 1 order) (leb order 3) e)

module _ (f : Floor) (ws : List ℕ) (order state report p : ℕ) where
  -- Refusal 11 with all that holds then.
  abbrev Eleven : Type 0
  Eleven =
      (check_of f ws ≡ passed) × (state_size f.carriers ≤ state) × (report_size f.carriers ≤ report) ×
      ((order < 1) ⊎ (3 < order)) × (p ≡ 0)

  place_cases : place_verdict f ws state ≡ refused 11 p → ⊥
  unfolding place_verdict
  place_cases e =
      ⊎_elim (λ h. no_row_eleven ((floor-theorems.refuses_exactly f ws 11 p).0 h) refl)
      (λ h. length_not_eleven (state_size f.carriers) state p h.1)
      (then_cases (check_of f ws) (long_enough (state_size f.carriers) state) 11 p e)

  eleven_says : trial_verdict f ws order state report ≡ refused 11 p → Eleven
  unfolding trial_verdict place_verdict
  eleven_says e =
      ⊎_elim (λ h. absurd (place_cases h))
      (λ h.
      let place = then_both (check_of f ws) (long_enough (state_size f.carriers) state) h.0 in
      ⊎_elim (λ g. absurd (length_not_eleven (report_size f.carriers) report p g))
      (λ g.
      let order_says = demand_cases (within 1 3 order) 11 0 11 p g.1 in
      (place.0, length_passed _ _ place.1, length_passed _ _ g.0, order_outside order order_says.0, order_says.2))
      (then_cases (long_enough (report_size f.carriers) report) (demand (within 1 3 order) 11 0) 11 p h.1))
      (then_cases (place_verdict f ws state) (long_enough (report_size f.carriers) report then demand (within 1 3 order) 11 0) 11 p e)

  eleven_comes : Eleven → trial_verdict f ws order state report ≡ refused 11 p
  unfolding trial_verdict place_verdict long_enough
  eleven_comes h =
      then_passed (then_passed h.0 ∙ demand_passes 9 0 (le-leb _ _ h.1))
      ∙ then_passed (demand_passes 9 0 (le-leb _ _ h.2))
      ∙ rw h.4 (⊎_elim (λ (l : order < 1). sym (low_is order l)) high h.3)
    where
      high : 3 < order → demand (within 1 3 order) 11 0 ≡ refused 11 0
      high l = sym (high_is order (omega arith) l)

number_names : (f : Floor) (ws : List ℕ) (x : Step) → f.carriers ≤ 8 → is_there (machine_of f ws) x ≡ true → asked_by (number_of x) ≡ step x
unfolding number_of is_there machine_of
number_names f ws (plan i) few e =
    (plan_number (101 + i) i).1 (omega (arith, ltb-true i f.carriers e), refl)
number_names f ws (deliver j i) few e =
    let a = ltb-true j i (and_fst (ltb j i) (ltb i f.carriers) e) in
    let b = ltb-true i f.carriers (and_snd (ltb j i) (ltb i f.carriers) e) in
    (deliver_number (200 + 10 * (j + 1) + (i + 1)) j i).1 (omega (arith, a, b), omega (arith, b), refl)

report_small : (n : ℕ) → n ≤ 8 → 2 * report_size n ≤ 65536
unfolding report_size ceiling
report_small n l = omega (arith, power_most (suc n) (omega arith))

report_most : report_size 8 ≡ 1004
unfolding report_size ceiling
report_most = refl

pub theorems : Claims
theorems =
    record {
      ends = ends;
      eleven_exactly = λ f ws order state report p. (eleven_says f ws order state report p, eleven_comes f ws order state report p);
      number_names = number_names;
      report_small = report_small;
      report_most = report_most;
    }
