-- A test of a record fails exactly under the condition of its cause.
use Prim.Native.Nat.{ℕ, ◌+◌, ◌-◌, ◌≤◌, ◌<◌}
use native.Mathlib.Omega.{arith}
use native.Mathlib.Nat.{zero-add}
use mathlib.Core.List.{List}
use mathlib.Core.Logic.{◌⊎◌, inl, inr}
use mathlib.Core.Path.{◌≡◌, refl, sym, ◌∙◌, ap}
use borrow.Author.Tests.{eqb-true, eqb-false, eq-eqb, ne_eqb}
use Rattle.laws.specs.Verdict.{Verdict, refused, ◌then◌, All}
use Rattle.laws.proofs.Tests.{lt_or_le, eq_or_ne, not_true_is_false, false_fails}
use Rattle.laws.proofs.VerdictLaws.{then_passed, then_refused, refused_by, refused_same, demand_holds, demand_passes, demand_refuses}
use Rattle.laws.proofs.VerdictLaws.{demand_cases}
use Rattle.laws.proofs.EachLaws.{each_passed, all_passes, each_refused, first_refuses}
use Rattle.route.specs.Route.{Task}
use Rattle.legality.specs.Tests.{begin_test, cells_test, moves_test, dock_test, blank_test, free_in, route_test, record_test}
use Rattle.legality.specs.Faults.{BeginsAtStart, Stands, Steps, Docked, ZeroFrom, FaultAt, no_tag, other_start, no_cell, no_move}
use Rattle.legality.specs.Faults.{no_dock, not_blank, not_empty}
use Rattle.legality.proofs.EntryLaws.{tag_fails, tag_route, tag_blank}
use Rattle.legality.proofs.RouteLaws.{zero_means, stands_means, steps_means}

-- A beat counted from 0 is its own place.
at_beat : {x : Verdict} (k t : ℕ) → x ≡ refused k (0 + t) → x ≡ refused k t
at_beat k t e = e ∙ ap (refused k) (zero-add t)

module _ (task : Task) (tag : ℕ) (r : List ℕ) where
  abbrev H : ℕ
  H = task.horizon

  -- The first test that fails of a route.
  route_fault : (k t : ℕ) → tag ≡ 2 → route_test task r ≡ refused k t → FaultAt task tag r k t
  unfolding route_test begin_test cells_test moves_test dock_test blank_test
  route_fault k t two e =
      refused_by e
      (λ h.
      let d = demand_cases _ 3 0 k t h in
      rw (d.1, d.2) (other_start two (eqb-false _ _ d.0)))
      (λ a e1.
      let begins : BeginsAtStart task r = eqb-true _ _ (demand_holds _ 3 0 a) in
      refused_by e1
      (λ h. each_refused 4 0 _ (Stands task r) (stands_means task r) (FaultAt task tag r) (H + 1) k t h
      (λ i s. rw (zero-add i) (no_cell two begins s)))
      (λ b e2.
      let stands = each_passed 4 0 _ (Stands task r) (stands_means task r) (H + 1) b in
      refused_by e2
      (λ h. each_refused 5 0 _ (Steps task r) (steps_means task r) (FaultAt task tag r) H k t h
      (λ i s. rw (zero-add i) (no_move two begins stands s)))
      (λ c e3.
      let steps = each_passed 5 0 _ (Steps task r) (steps_means task r) H c in
      refused_by e3
      (λ h.
      let d = demand_cases _ 6 H k t h in
      rw (d.1, d.2) (no_dock two begins stands steps (false_fails d.0)))
      (λ g h.
      each_refused 7 (H + 1) _ (ZeroFrom r (H + 1)) (zero_means r (H + 1)) (FaultAt task tag r) (64 - (H + 1)) k t h
      (λ i s. not_blank two begins stands steps (demand_holds _ 6 H g) s)))))

  empty_fault : (k t : ℕ) → tag < 2 → blank_test 0 r ≡ refused k t → FaultAt task tag r k t
  unfolding blank_test
  empty_fault k t l e =
      each_refused 7 0 _ (ZeroFrom r 0) (zero_means r 0) (FaultAt task tag r) 64 k t e (λ i s. rw (zero-add i) (not_empty l s))

  pub test_fault : (k t : ℕ) → record_test task tag r ≡ refused k t → FaultAt task tag r k t
  test_fault k t e = by_tag (lt_or_le 2 tag)
    where
      by_two : tag ≤ 2 → (tag ≡ 2) ⊎ (tag ≡ 2 → ⊥) → FaultAt task tag r k t
      by_two l (inl h) = route_fault k t h (tag_route task tag r h refl ∙ e)
      by_two l (inr h) = empty_fault k t (omega arith) (tag_blank task tag r l h refl ∙ e)

      by_tag : (2 < tag) ⊎ (tag ≤ 2) → FaultAt task tag r k t
      by_tag (inl l) =
          let s = refused_same (tag_fails task tag r l refl ∙ e) in
          rw (sym s.0, sym s.1) (no_tag l)
      by_tag (inr l) = by_two l (eq_or_ne tag 2)

  -- Tests that find nothing, and the next one that refuses.
  begun : {x : Verdict} → BeginsAtStart task r → (begin_test task.start r then x) ≡ x
  unfolding begin_test
  begun b = then_passed (demand_passes 3 0 (eq-eqb _ _ b))

  stood : {x : Verdict} → All (Stands task r) (H + 1) → (cells_test (free_in task) H r then x) ≡ x
  unfolding cells_test
  stood a = then_passed (all_passes 4 0 _ (Stands task r) (stands_means task r) (H + 1) a)

  stepped : {x : Verdict} → All (Steps task r) H → (moves_test task.width H r then x) ≡ x
  unfolding moves_test
  stepped a = then_passed (all_passes 5 0 _ (Steps task r) (steps_means task r) H a)

  ended : {x : Verdict} → Docked task r → (dock_test task.dock H r then x) ≡ x
  unfolding dock_test
  ended d = then_passed (demand_passes 6 H d)

  -- A route with a fault: its test refuses.
  routed : (k t : ℕ) → tag ≡ 2 → route_test task r ≡ refused k t → record_test task tag r ≡ refused k t
  routed k t e h = sym (tag_route task tag r e refl) ∙ h

  pub fault_test : (k t : ℕ) → FaultAt task tag r k t → record_test task tag r ≡ refused k t
  unfolding route_test begin_test cells_test moves_test dock_test blank_test
  fault_test k t (no_tag l) = sym (tag_fails task tag r l refl)
  fault_test k t (other_start e b) =
      routed 3 0 e (then_refused _ (demand_refuses 3 0 (ne_eqb _ _ b)))
  fault_test k t (no_cell e b s) =
      routed 4 t e (begun b ∙ then_refused _ (at_beat 4 t (first_refuses 4 0 _ (Stands task r) (stands_means task r) (H + 1) t s)))
  fault_test k t (no_move e b a s) =
      routed 5 t e (begun b ∙ stood a ∙ then_refused _ (at_beat 5 t (first_refuses 5 0 _ (Steps task r) (steps_means task r) H t s)))
  fault_test k t (no_dock e b a c d) =
      routed 6 H e (begun b ∙ stood a ∙ stepped c ∙ then_refused _ (demand_refuses 6 H (not_true_is_false _ d)))
  fault_test k t (not_blank {k = j} e b a c d s) =
      routed 7 (H + 1 + j) e
      (begun b ∙ stood a ∙ stepped c ∙ ended d ∙ first_refuses 7 (H + 1) _ (ZeroFrom r (H + 1)) (zero_means r (H + 1)) (64 - (H + 1)) j s)
  fault_test k t (not_empty l s) =
      sym (tag_blank task tag r (omega arith) (λ h. omega arith) refl)
      ∙ at_beat 7 t (first_refuses 7 0 _ (ZeroFrom r 0) (zero_means r 0) 64 t s)
