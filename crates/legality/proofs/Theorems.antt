-- The claims, proved.
use Prim.Native.Nat.{ℕ, ◌≤◌, ◌<◌, min}
use native.Mathlib.Omega.{arith}
use mathlib.Core.List.{List, ◌∷◌}
use mathlib.Core.Logic.{◌↔◌, ⊎_elim}
use mathlib.Core.Path.{◌≡◌, refl, sym, ◌∙◌, ap}
use lib.ListN.{length, get_or, replicate}
use lib.Seq.{take_all}
use borrow.Author.Tests.{le-leb}
use Rattle.laws.specs.Memory.{part}
use Rattle.laws.specs.Verdict.{Verdict, passed, refused, value}
use Rattle.laws.proofs.Tests.{eq_or_ne}
use Rattle.laws.proofs.PartLaws.{part_length}
use Rattle.laws.proofs.VerdictLaws.{then_passed, demand_passes, given_value, gives_passed}
use Rattle.floor.specs.declared.Floor.{Floor}
use Rattle.floor.specs.Checks.{long_enough}
use Rattle.floor.proofs.LimitsLaws.{length_passed, within_means}
use Rattle.floor.proofs.Theorems.{theorems as floor-theorems}
use Rattle.route.specs.Route.{route}
use Rattle.route.specs.Best.{Arrives}
use Rattle.route.specs.Arrival.{arrival_of}
use Rattle.route.proofs.Theorems.{theorems as route-theorems}
use Rattle.records.specs.Records.{record_of, slot, resized}
use Rattle.search.specs.Task.{task_of}
use Rattle.search.specs.Answers.{answered}
use Rattle.search.specs.Search.{search_of}
use Rattle.search.proofs.Theorems.{theorems as search-theorems}
use Rattle.legality.specs.Tests.{blank_test, record_test}
use Rattle.legality.specs.Entry.{RecordAnswer, a_route, a_none, not_heard, wrong, record_kind, record_answer, ◌or_wrong◌}
use Rattle.legality.specs.Entry.{record_verdict, record_outcome, arrival_outcome}
use Rattle.legality.specs.Faults.{FaultAt}
use Rattle.legality.specs.Claims.{RecordGranted, RouteIn, Claims}
use Rattle.legality.proofs.EntryLaws.{verdict_granted, kind_route, kind_none, kind_unheard, tag_route, tag_blank, answer_passed}
use Rattle.legality.proofs.EntryLaws.{answer_wrong, lent_cells}
use Rattle.legality.proofs.FaultLaws.{test_fault, fault_test}
use Rattle.legality.proofs.RecordLaws.{case_of, route_tested, tag_low, blank_tested, route_tag, none_tag, unheard_tag}
use Rattle.legality.proofs.RecordLaws.{blank_record, record_blank}
use Rattle.legality.proofs.RouteLaws.{passed_route, route_passed, blank_says, blank_below}

-- An answer that is no fault: the tests found nothing, and it is what the tag says.
not_wrong : (z : Verdict) (x y : RecordAnswer) → (z or_wrong x) ≡ y → case_of y < 3 → (z ≡ passed) × (x ≡ y)
unfolding ◌or_wrong◌ case_of
not_wrong passed x y e l = (refl, e)
not_wrong (refused k t) x y e l = let z : 3 ≡ case_of y = ap case_of e in absurd (omega arith)

-- A fault is that of the tests, since no tag tells one.
is_wrong : (y : Verdict) (x : RecordAnswer) (k t : ℕ) → case_of x < 3 → (y or_wrong x) ≡ wrong k t → y ≡ refused k t
unfolding ◌or_wrong◌ case_of
is_wrong passed x k t l e = let z : case_of x ≡ 3 = ap case_of e in absurd (omega arith)
is_wrong (refused j u) x k t l e = let a : j ≡ k = cc in let b : u ≡ t = cc in rw (a, b) refl

kind_right : (tag a : ℕ) → case_of (record_kind tag a) < 3
unfolding case_of
kind_right tag a =
    ⊎_elim (λ (h : tag ≡ 2). rw (sym (kind_route tag a h)) (omega arith))
    (λ (n : tag ≡ 2 → ⊥).
    ⊎_elim (λ (h : tag ≡ 1). rw (sym (kind_none tag a h)) (omega arith))
    (λ (h : tag ≡ 1 → ⊥). rw (sym (kind_unheard tag a n h)) (omega arith)) (eq_or_ne tag 1))
    (eq_or_ne tag 2)

module _ (f : Floor) (ws : List ℕ) (i : ℕ) (m : List ℕ) where
  asked : record_verdict f ws i (length m) ≡ passed → RecordGranted f ws i m
  asked e =
      let g = verdict_granted f ws i (length m) e in
      record { accepted = (floor-theorems.passes_exactly f ws).0 g.checked; lent = g.enough; listed = g.listed }

  granted : RecordGranted f ws i m → record_verdict f ws i (length m) ≡ passed
  unfolding record_verdict long_enough
  granted a =
      then_passed ((floor-theorems.passes_exactly f ws).1 a.accepted)
      ∙ then_passed (demand_passes 9 0 (le-leb 65 (length m) a.lent))
      ∙ demand_passes 7 0 ((within_means 1 f.carriers i).1 a.listed)

  -- What a record that is not wrong says: it is asked for, its tests find nothing, and it is what the tag says.
  record NotWrong (y : RecordAnswer) : Type 0 where
    request : RecordGranted f ws i m
    tests : record_test (task_of f ws i) (get_or m 0 0) (part m 1 64) ≡ passed
    kind : record_kind (get_or m 0 0) (arrival_of (part m 1 64) f.horizon) ≡ y

  told : (y : RecordAnswer) → case_of y < 3 → record_outcome f ws i m ≡ value y → NotWrong y
  unfolding record_outcome record_answer task_of
  told y l e =
      let g = given_value (record_verdict f ws i (length m)) (record_answer (task_of f ws i) m) y (sym e) in
      let t = not_wrong (record_test (task_of f ws i) (get_or m 0 0) (part m 1 64)) _ y (sym g.1) l in
      record { request = asked g.0; tests = t.0; kind = t.1 }

  tells : (y : RecordAnswer) → NotWrong y → record_outcome f ws i m ≡ value y
  unfolding record_outcome task_of
  tells y t =
      gives_passed (granted t.request)
      ∙ sym (ap value (answer_passed (task_of f ws i) m refl t.tests (sym t.kind)))

  long_part : RecordGranted f ws i m → length (part m 1 64) ≡ 64
  long_part a = part_length m 1 64 (omega (arith, a.lent))

  legal_told : (a : ℕ) → record_outcome f ws i m ≡ value (a_route a) → RouteIn f ws i m a
  unfolding case_of
  legal_told a e =
      let t = told (a_route a) (omega arith) e in
      let k = route_tag (get_or m 0 0) (arrival_of (part m 1 64) f.horizon) a t.kind in
      record {
        asked = t.request;
        tagged = k.0;
        is_route = passed_route (task_of f ws i) (part m 1 64) (long_part t.request) (route_tested (task_of f ws i) _ _ t.tests k.0);
        arrives = (route-theorems.arrival_agrees f.horizon (part m 1 64) a).1 (sym k.1);
      }

  legal_tells : (a : ℕ) → RouteIn f ws i m a → record_outcome f ws i m ≡ value (a_route a)
  legal_tells a h =
      let same : a ≡ arrival_of (part m 1 64) f.horizon = (route-theorems.arrival_agrees f.horizon (part m 1 64) a).0 h.arrives in
      tells (a_route a)
      (record {
        request = h.asked;
        tests = sym (tag_route (task_of f ws i) (get_or m 0 0) (part m 1 64) h.tagged refl)
            ∙ route_passed (task_of f ws i) (part m 1 64) (long_part h.asked) h.is_route;
        kind = sym (kind_route (get_or m 0 0) _ h.tagged) ∙ ap a_route (sym same);
      })

  -- A record with a tag and no number but 0 behind it.
  blank_tests : (tag : ℕ) → RecordGranted f ws i m → tag < 2 → part m 0 65 ≡ tag ∷ replicate 64 0 →
      (get_or m 0 0 ≡ tag) × (record_test (task_of f ws i) (get_or m 0 0) (part m 1 64) ≡ passed)
  blank_tests tag a l e =
      let b = record_blank m a.lent tag e in
      let blank : blank_test 0 (part m 1 64) ≡ passed = blank_below (part m 1 64) 0 (λ t h k. b.1 t k) in
      (b.0, sym (tag_blank (task_of f ws i) (get_or m 0 0) (part m 1 64) (omega (arith, b.0)) (λ h. omega (arith, b.0)) refl) ∙ blank)

  none_told : record_outcome f ws i m ≡ value a_none → RecordGranted f ws i m × (part m 0 65 ≡ 1 ∷ replicate 64 0)
  unfolding case_of
  none_told e =
      let t = told a_none (omega arith) e in
      let k = none_tag (get_or m 0 0) _ t.kind in
      let blank = blank_tested (task_of f ws i) (get_or m 0 0) (part m 1 64) t.tests (λ h. omega arith) in
      (t.request, blank_record m t.request.lent 1 k (blank_says (part m 1 64) (long_part t.request) 0 blank))

  none_tells : RecordGranted f ws i m → part m 0 65 ≡ 1 ∷ replicate 64 0 → record_outcome f ws i m ≡ value a_none
  none_tells a e =
      let b = blank_tests 1 a (omega arith) e in
      tells a_none (record { request = a; tests = b.1; kind = sym (kind_none (get_or m 0 0) _ b.0) })

  unheard_told : record_outcome f ws i m ≡ value not_heard → RecordGranted f ws i m × (part m 0 65 ≡ 0 ∷ replicate 64 0)
  unfolding case_of
  unheard_told e =
      let t = told not_heard (omega arith) e in
      let k = unheard_tag (get_or m 0 0) _ (tag_low (task_of f ws i) (get_or m 0 0) (part m 1 64) t.tests) t.kind in
      let blank = blank_tested (task_of f ws i) (get_or m 0 0) (part m 1 64) t.tests (λ h. omega arith) in
      (t.request, blank_record m t.request.lent 0 k (blank_says (part m 1 64) (long_part t.request) 0 blank))

  unheard_tells : RecordGranted f ws i m → part m 0 65 ≡ 0 ∷ replicate 64 0 → record_outcome f ws i m ≡ value not_heard
  unheard_tells a e =
      let b = blank_tests 0 a (omega arith) e in
      tells not_heard
      (record { request = a; tests = b.1; kind = sym (kind_unheard (get_or m 0 0) _ (λ h. omega (arith, b.0)) (λ h. omega (arith, b.0))) })

  -- A fault is that of the tests.
  wrong_told : (k t : ℕ) → record_outcome f ws i m ≡ value (wrong k t) →
      RecordGranted f ws i m × FaultAt (task_of f ws i) (get_or m 0 0) (part m 1 64) k t
  unfolding record_outcome record_answer
  wrong_told k t e =
      let g = given_value (record_verdict f ws i (length m)) (record_answer (task_of f ws i) m) (wrong k t) (sym e) in
      (asked g.0, test_fault (task_of f ws i) (get_or m 0 0) (part m 1 64) k t (is_wrong _ _ k t (kind_right (get_or m 0 0) _) (sym g.1)))

  wrong_tells : (k t : ℕ) → RecordGranted f ws i m → FaultAt (task_of f ws i) (get_or m 0 0) (part m 1 64) k t →
      record_outcome f ws i m ≡ value (wrong k t)
  unfolding record_outcome
  wrong_tells k t a h =
      gives_passed (granted a)
      ∙ sym (ap value (answer_wrong (task_of f ws i) m refl (fault_test (task_of f ws i) (get_or m 0 0) (part m 1 64) k t h)))

-- What a search answers is a route of the carrier.
found : (f : Floor) (ws : List ℕ) (i : ℕ) (m r : List ℕ) → search_of f ws i m ≡ answered (route r) →
    record_outcome f ws i (2 ∷ r) ≡ value (a_route (arrival_of r f.horizon))
unfolding part
found f ws i m r e =
    let g = (search-theorems.answers_exactly f ws i m).0 (route r, e) in
    let a = search-theorems.answers_route f ws i m r e in
    let whole : part (2 ∷ r) 1 64 ≡ r = take_all 64 r (omega (arith, a.0.long)) in
    legal_tells f ws i (2 ∷ r) (arrival_of r f.horizon)
    (record {
      asked = record { accepted = g.accepted; lent = omega (arith, a.0.long); listed = g.listed };
      tagged = refl;
      is_route = rw whole a.0;
      arrives = rw whole a.1;
    })

module _ (r : List ℕ) (horizon a : ℕ) where
  arrived : (arrival_outcome r horizon ≡ value a) ↔ ((64 ≤ length r) × Arrives (min horizon 63) (part r 0 64) a)
  unfolding arrival_outcome
  arrived = (
    λ e.
        let g = given_value (long_enough 64 (length r)) (arrival_of (part r 0 64) (min horizon 63)) a (sym e) in
        (length_passed 64 (length r) g.0, (route-theorems.arrival_agrees (min horizon 63) (part r 0 64) a).1 g.1),
    λ h. sym (lent_cells r horizon ((route-theorems.arrival_agrees (min horizon 63) (part r 0 64) a).0 h.1) h.0),
  )

pub theorems : Claims
unfolding record_of slot resized
theorems =
    record {
      route_exactly = λ task r long. (passed_route task r long, route_passed task r long);
      legal_exactly = λ f ws i m a. (legal_told f ws i m a, legal_tells f ws i m a);
      none_exactly = λ f ws i m. (none_told f ws i m, λ h. none_tells f ws i m h.0 h.1);
      unheard_exactly = λ f ws i m. (unheard_told f ws i m, λ h. unheard_tells f ws i m h.0 h.1);
      wrong_exactly = λ f ws i m k t. (wrong_told f ws i m k t, λ h. wrong_tells f ws i m k t h.0 h.1);
      found_legal = found;
      arrival_exactly = arrived;
    }
