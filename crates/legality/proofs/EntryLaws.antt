-- Laws of the entries: what it says that a check of a record is not refused, and what is answered then.
use Prim.Native.Nat.{ℕ, ◌-◌, ◌≤◌, ◌<◌, min}
use native.Mathlib.Omega.{arith}
use mathlib.Core.List.{List}
use mathlib.Core.Path.{◌≡◌, refl, sym, ap}
use lib.ListN.{length, get_or}
use borrow.Author.Tests.{le-leb, lt-leb, eq-eqb, ne_eqb}
use Rattle.laws.specs.Memory.{part}
use Rattle.laws.specs.Verdict.{Verdict, passed, refused, demand, value, ◌gives◌}
use Rattle.laws.proofs.VerdictLaws.{then_both, demand_holds, demand_on, demand_ends}
use Rattle.floor.specs.declared.Floor.{Floor}
use Rattle.floor.specs.Checks.{check_of, long_enough, carriers_of, walls_of, rising_of, places_of}
use Rattle.floor.proofs.LimitsLaws.{check_tells, length_passed, within_means}
use Rattle.floor.proofs.WallSearchLaws.{passed_rising}
use Rattle.floor.proofs.DockLaws.{passed_counted}
use Rattle.route.specs.Route.{Task}
use Rattle.route.specs.Arrival.{arrival_of}
use Rattle.legality.specs.Tests.{blank_test, route_test, record_test}
use Rattle.legality.specs.Entry.{RecordAnswer, a_route, a_none, not_heard, wrong, record_kind, record_answer, ◌or_wrong◌}
use Rattle.legality.specs.Entry.{record_verdict, arrival_outcome}
use Rattle.legality.specs.declared.Fault.{Fault}
use Rattle.legality.specs.declared.Record.TheVariants.{Wrong}
use Rattle.legality.specs.Answers.{test_of, record_meant}
use Rattle.std.specs.Prelude.{Ok, Err, ⊤}
use Rattle.legality.specs.Inner.{RecordChecked}

-- A check of a record that passes its refusals: the floor's are passed, 65 numbers are lent, and the carrier is there.
pub record RecordPassed (f : Floor) (ws : List ℕ) (i lent : ℕ) : Type 0 where
  pub checked : check_of f ws ≡ passed
  pub enough : 65 ≤ lent
  pub listed : (1 ≤ i) × (i ≤ f.carriers)

module _ (f : Floor) (ws : List ℕ) (i lent : ℕ) where
  pub verdict_granted : record_verdict f ws i lent ≡ passed → RecordPassed f ws i lent
  unfolding record_verdict
  verdict_granted e =
      let one = then_both (check_of f ws) _ e in
      let two = then_both (long_enough 65 lent) _ one.1 in
      record {
        checked = one.0;
        enough = length_passed 65 lent two.0;
        listed = (within_means 1 f.carriers i).0 (demand_holds _ 7 0 two.1);
      }

  -- What the tests then need.
  pub verdict_placed : record_verdict f ws i lent ≡ passed → RecordChecked f ws i
  unfolding places_of
  verdict_placed e =
      let g = verdict_granted e in
      let t = check_tells f ws g.checked in
      let one = then_both (carriers_of f) _ t.places in
      let two = then_both (walls_of f ws) _ one.1 in
      let three = then_both (rising_of f ws) _ two.1 in
      record {
        width = t.bounds.width;
        height = t.bounds.height.1;
        horizon = t.bounds.horizon.1;
        lent = t.lent;
        rising = passed_rising f ws three.0;
        listed = (g.listed.0, omega (arith, g.listed, t.bounds.carriers));
        few = (passed_counted f one.0 (i - 1) (omega (arith, g.listed))).1;
      }

-- The tests of a record by its tag.
module _ (task : Task) (tag : ℕ) (r : List ℕ) where
  pub tag_fails : {x : Verdict} → 2 < tag → x ≡ refused 8 0 → x ≡ record_test task tag r
  unfolding record_test
  tag_fails l e = demand_ends 8 0 _ (lt-leb tag 2 l) e

  pub tag_route : {x : Verdict} → tag ≡ 2 → x ≡ route_test task r → x ≡ record_test task tag r
  unfolding record_test
  tag_route e h = demand_on 8 0 (le-leb tag 2 (omega arith)) (rw (eq-eqb tag 2 e) h)

  pub tag_blank : {x : Verdict} → tag ≤ 2 → (tag ≡ 2 → ⊥) → x ≡ blank_test 0 r → x ≡ record_test task tag r
  unfolding record_test
  tag_blank l n h = demand_on 8 0 (le-leb tag 2 l) (rw (ne_eqb tag 2 n) h)

-- What a record is by its tag.
module _ (tag a : ℕ) where
  pub kind_route : tag ≡ 2 → a_route a ≡ record_kind tag a
  unfolding record_kind
  kind_route e = rw (eq-eqb tag 2 e, record_kind) refl

  pub kind_arrived : (h : ℕ) (r : List ℕ) → tag ≡ 2 → a ≡ arrival_of r (min h 63) → h ≤ 63 → a_route a ≡ record_kind tag (arrival_of r h)
  unfolding record_kind
  kind_arrived h r e s l =
      let low : min h 63 ≡ h = omega arith in
      rw (eq-eqb tag 2 e, record_kind) (ap a_route (rw low at s))

  pub kind_none : tag ≡ 1 → a_none ≡ record_kind tag a
  unfolding record_kind
  kind_none e = rw (ne_eqb tag 2 (λ h. omega arith), eq-eqb tag 1 e, record_kind) refl

  pub kind_unheard : (tag ≡ 2 → ⊥) → (tag ≡ 1 → ⊥) → not_heard ≡ record_kind tag a
  unfolding record_kind
  kind_unheard n h = rw (ne_eqb tag 2 n, ne_eqb tag 1 h, record_kind) refl

-- The arrival of a lent route: 9, or its value.
module _ (r : List ℕ) (horizon : ℕ) where
  pub lent_cells : {a : ℕ} → a ≡ arrival_of (part r 0 64) (min horizon 63) → 64 ≤ length r → value a ≡ arrival_outcome r horizon
  unfolding arrival_outcome long_enough demand ◌gives◌
  lent_cells e l = rw (le-leb 64 (length r) l) (ap value e)

-- The answer of a record whose tests find nothing, and of one with a test that fails.
module _ (task : Task) (m : List ℕ) {cells : List ℕ} (same : cells ≡ part m 1 64) where
  pub answer_passed : {x : RecordAnswer} → record_test task (get_or m 0 0) cells ≡ passed →
      x ≡ record_kind (get_or m 0 0) (arrival_of cells task.horizon) → x ≡ record_answer task m
  unfolding record_answer ◌or_wrong◌
  answer_passed e h = rw (← same, e) h

  pub answer_wrong : {k t : ℕ} → record_test task (get_or m 0 0) cells ≡ refused k t → wrong k t ≡ record_answer task m
  unfolding record_answer ◌or_wrong◌
  answer_wrong e = rw (← same, e) refl

  -- The same where the code met it.
  pub answer_met : {x : RecordAnswer} {u : ⊤} → test_of (Ok u) ≡ record_test task (get_or m 0 0) cells →
      x ≡ record_kind (get_or m 0 0) (arrival_of cells task.horizon) → x ≡ record_answer task m
  unfolding test_of
  answer_met e h = answer_passed (sym e) h

  pub wrong_met : (x : Fault) → test_of (Err x) ≡ record_test task (get_or m 0 0) cells → record_meant (Wrong x) ≡ record_answer task m
  unfolding test_of record_meant
  wrong_met x e = answer_wrong (sym e)
