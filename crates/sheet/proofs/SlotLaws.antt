-- The form of a sheet, slot by slot: what a slot's check means, and that the form is the form of its slots in their order.
use Prim.Native.Nat.{ℕ, ◌+◌, ◌≤◌, ◌<◌}
use native.Mathlib.Omega.{arith}
use mathlib.Core.Bool.{Bool, true, false}
use mathlib.Core.Path.{◌≡◌, refl, sym, ◌∙◌}
use mathlib.Core.List.{List, [], ◌∷◌}
use borrow.Author.Tests.{leb-true, leb-false, ltb-true, ltb-false, eqb-false, le-leb, lt-leb, lt-ltb, le-ltb, eq-eqb, ne_eqb}
use lib.ListN.{length}
use Rattle.laws.proofs.Tests.{not_true_is_false, false_fails}
use Rattle.laws.specs.Verdict.{Verdict, passed, refused, ◌then◌}
use Rattle.laws.proofs.VerdictLaws.{then_both, refused_by, then_passed, then_refused, demand_holds, demand_cases, demand_passes}
use Rattle.laws.proofs.VerdictLaws.{demand_refuses, refused_not_passed}
use Rattle.floor.specs.Checks.{within}
use Rattle.floor.proofs.LimitsLaws.{within_means}
use Rattle.fields.specs.Field.{is_field, number_at}
use Rattle.fields.specs.Form.{field_form, count_form, newline_form, end_form}
use Rattle.sheet.specs.Refused.{Slot, field, count, newline, finish, GoodCount, Fine, Broken, cut, bad, cut_count, bad_count, ended}
use Rattle.sheet.specs.Refused.{wrong, extra, AllFine, none_left, one_more, FirstBroken, here, later}
use Rattle.sheet.proofs.LineText.{newline_tells}
use Rattle.sheet.proofs.FieldLaws.{is_field_good, good_is_field, good_number}

-- The check of a slot, and of slots in their order.
unfoldable pub slot_form : List ℕ → Slot → Verdict
slot_form text (field at) = field_form text at
slot_form text (count at) = count_form text at
slot_form text (newline at) = newline_form text at
slot_form text (finish at) = end_form text at

unfoldable pub slots_form : List ℕ → List Slot → Verdict
slots_form text [] = passed
slots_form text (x ∷ xs) = slot_form text x then slots_form text xs

module _ (text : List ℕ) where
  -- A field in good form, and one whose number is 1 to 4.
  field_fine : (at : ℕ) → field_form text at ≡ passed → Fine text (field at)
  unfolding field_form
  field_fine at h =
      let a = then_both _ _ h in
      (leb-true _ _ (demand_holds _ 1 (length text) a.0), is_field_good text at (demand_holds _ 1 at a.1))

  fine_field : (at : ℕ) → Fine text (field at) → field_form text at ≡ passed
  unfolding field_form
  fine_field at h = then_passed (demand_passes 1 _ (le-leb _ _ h.0)) ∙ demand_passes 1 at (good_is_field text at h.1)

  count_within : (at : ℕ) → GoodCount text at → within 1 4 (number_at text at) ≡ true
  count_within at g =
      let v = good_number text at g.good in
      (within_means 1 4 (number_at text at)).1 (omega (arith, v, g.least), omega (arith, v, g.most))

  within_count : (at : ℕ) → is_field text at ≡ true → within 1 4 (number_at text at) ≡ true → GoodCount text at
  within_count at f t =
      let g = is_field_good text at f in
      let v = good_number text at g in
      let b = (within_means 1 4 (number_at text at)).0 t in
      record { good = g; least = omega (arith, v, b.0); most = omega (arith, v, b.1) }

  -- A dock count is refused where its field is, and where the number is none of 1 to 4.
  broken_count : {at p : ℕ} → Broken text (field at) p → Broken text (count at) p
  broken_count (cut l) = cut_count l
  broken_count (bad l n) = bad_count l (λ g. n g.good)

  bad_counts : (at : ℕ) → at + 5 ≤ length text → (GoodCount text at → ⊥) → count_form text at ≡ refused 1 at
  unfolding count_form field_form
  bad_counts at l n = go (is_field text at) refl
    where
      go : (x : Bool) → is_field text at ≡ x → count_form text at ≡ refused 1 at
      go false e = then_refused _ (then_passed (demand_passes 1 (length text) (le-leb _ _ l)) ∙ demand_refuses 1 at e)
      go true e =
          then_passed (then_passed (demand_passes 1 (length text) (le-leb _ _ l)) ∙ demand_passes 1 at e)
          ∙ demand_refuses 1 at (not_true_is_false (within 1 4 (number_at text at)) (λ t. n (within_count at e t)))

  counts_cut : (at : ℕ) → length text < at + 5 → count_form text at ≡ refused 1 (length text)
  unfolding count_form field_form
  counts_cut at l = then_refused _ (then_refused _ (demand_refuses 1 _ (lt-leb _ _ l)))

  -- A slot passes exactly if it is fine.
  slot_fine : (x : Slot) → slot_form text x ≡ passed → Fine text x
  unfolding slot_form count_form newline_form end_form
  slot_fine (field at) h = field_fine at h
  slot_fine (count at) h =
      let a = then_both _ _ h in
      let f = field_fine at a.0 in
      (f.0, within_count at (good_is_field text at f.1) (demand_holds _ 1 at a.1))
  slot_fine (newline at) h = newline_tells text at h
  slot_fine (finish at) h = leb-true _ _ (demand_holds _ 1 at h)

  fine_slot : (x : Slot) → Fine text x → slot_form text x ≡ passed
  unfolding slot_form count_form newline_form end_form
  fine_slot (field at) h = fine_field at h
  fine_slot (count at) h = then_passed (fine_field at (h.0, h.1.good)) ∙ demand_passes 1 at (count_within at h.1)
  fine_slot (newline at) h = then_passed (demand_passes 1 _ (lt-ltb _ _ h.0)) ∙ demand_passes 1 at (eq-eqb _ _ h.1)
  fine_slot (finish at) h = demand_passes 1 at (le-leb _ _ h)

  -- A slot that is refused is broken, with number 1 and its place.
  field_broken : (at k p : ℕ) → field_form text at ≡ refused k p → (k ≡ 1) × Broken text (field at) p
  unfolding field_form
  field_broken at k p h =
      refused_by h
      (λ r. let d = demand_cases _ 1 (length text) k p r in (d.1, rw d.2 (cut (leb-false _ _ d.0))))
      (λ a r.
      let d = demand_cases _ 1 at k p r in
      (d.1, rw d.2 (bad (leb-true _ _ (demand_holds _ 1 _ a)) (λ g. false_fails d.0 (good_is_field text at g)))))

  slot_broken : (x : Slot) (k p : ℕ) → slot_form text x ≡ refused k p → (k ≡ 1) × Broken text x p
  unfolding slot_form count_form newline_form end_form
  slot_broken (field at) k p h = field_broken at k p h
  slot_broken (count at) k p h =
      refused_by h
      (λ r. let d = field_broken at k p r in (d.0, broken_count d.1))
      (λ a r.
      let d = demand_cases _ 1 at k p r in
      (d.1, rw d.2 (bad_count (field_fine at a).0 (λ g. false_fails d.0 (count_within at g)))))
  slot_broken (newline at) k p h =
      refused_by h
      (λ r. let d = demand_cases _ 1 (length text) k p r in (d.1, rw d.2 (ended (ltb-false _ _ d.0))))
      (λ a r.
      let d = demand_cases _ 1 at k p r in
      (d.1, rw d.2 (wrong (ltb-true _ _ (demand_holds _ 1 _ a)) (eqb-false _ _ d.0))))
  slot_broken (finish at) k p h =
      let d = demand_cases _ 1 at k p h in
      (d.1, rw d.2 (extra (leb-false _ _ d.0)))

  broken_slot : (x : Slot) (p : ℕ) → Broken text x p → slot_form text x ≡ refused 1 p
  unfolding slot_form field_form newline_form end_form
  broken_slot x p (cut_count {at} l) = counts_cut at l
  broken_slot x p (bad_count {at} l n) = bad_counts at l n
  broken_slot x p (cut l) = then_refused _ (demand_refuses 1 _ (lt-leb _ _ l))
  broken_slot x p (bad {at} l n) =
      then_passed (demand_passes 1 _ (le-leb _ _ l))
      ∙ demand_refuses 1 at (not_true_is_false (is_field text at) (λ t. n (is_field_good text at t)))
  broken_slot x p (ended l) = then_refused _ (demand_refuses 1 _ (le-ltb _ _ l))
  broken_slot x p (wrong l n) = then_passed (demand_passes 1 _ (lt-ltb _ _ l)) ∙ demand_refuses 1 _ (ne_eqb _ _ n)
  broken_slot x p (extra l) = demand_refuses 1 _ (lt-leb _ _ l)

  -- Slots pass exactly if all are fine.
  pub slots_fine : (xs : List Slot) → slots_form text xs ≡ passed → AllFine text xs
  unfolding slots_form
  slots_fine [] h = none_left
  slots_fine (x ∷ xs) h = let a = then_both _ _ h in one_more (slot_fine x a.0) (slots_fine xs a.1)

  pub fine_slots : (xs : List Slot) → AllFine text xs → slots_form text xs ≡ passed
  unfolding slots_form
  fine_slots [] h = refl
  fine_slots (x ∷ xs) (one_more a b) = then_passed (fine_slot x a) ∙ fine_slots xs b

  -- Slots are refused exactly at the first that is broken.
  pub slots_broken : (xs : List Slot) (k p : ℕ) → slots_form text xs ≡ refused k p → (k ≡ 1) × FirstBroken text xs p
  unfolding slots_form
  slots_broken [] k p h = absurd (refused_not_passed (sym h))
  slots_broken (x ∷ xs) k p h =
      refused_by h
      (λ r. let d = slot_broken x k p r in (d.0, here d.1))
      (λ a r. let d = slots_broken xs k p r in (d.0, later (slot_fine x a) d.1))

  pub broken_slots : (xs : List Slot) (p : ℕ) → FirstBroken text xs p → slots_form text xs ≡ refused 1 p
  unfolding slots_form
  broken_slots [] p b = elim b [ ]
  broken_slots (x ∷ xs) p (here b) = then_refused _ (broken_slot x p b)
  broken_slots (x ∷ xs) p (later a b) = then_passed (fine_slot x a) ∙ broken_slots xs p b
