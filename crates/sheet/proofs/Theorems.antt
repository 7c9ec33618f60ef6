-- The claims of the sheet, proved.
use Prim.Native.Nat.{ℕ, zero, suc, ◌+◌, ◌*◌, ◌/◌, ◌%◌, ◌≤◌, ◌<◌}
use native.Mathlib.Omega.{arith}
use mathlib.Core.Path.{◌≡◌, refl, sym, ◌∙◌}
use mathlib.Core.Logic.{◌↔◌}
use mathlib.Core.List.{List, [], ◌∷◌, ◌++◌}
use lib.ListN.{get_or, get_or-replicate}
use Rattle.laws.specs.Verdict.{passed, refused}
use Rattle.floor.specs.Checks.{limits_of, start_of, count_of, dock_of}
use Rattle.floor.specs.declared.Floor.{Floor}
use Rattle.floor.specs.OneDock.{OneDockFloor, one_each, with_one_dock}
use Rattle.floor.specs.Accepted.{FieldWithin, Limited}
use Rattle.laws.proofs.VerdictLaws.{then_both, refused_by, then_passed, then_refused}
use Rattle.laws.proofs.EachLaws.{each_refused, first_refuses}
use Rattle.floor.proofs.LimitsLaws.{field_within, field_means, limits_each, limits_mean}
use Rattle.floor.proofs.Theorems.{theorems as floor-theorems}
use Rattle.fields.specs.Field.{field_of, number_at}
use Rattle.sheet.specs.Text.{line_of, cell_numbers, carrier_line}
use Rattle.sheet.proofs.DockLaws.{dock_place}
use Rattle.fields.specs.Form.{line_form}
use Rattle.sheet.specs.Form.{rest_form}
use Rattle.sheet.specs.Values.{value_at, cell_at_column, head_at, floor_at, walls_at}
use Rattle.sheet.specs.Read.{form_of, sheet_verdict}
use Rattle.sheet.specs.Refused.{head_slots, rest_slots, AllFine, RefusedSheet, head_form, outside_limit, rest_form_lem, floor_row}
use Rattle.sheet.specs.Claims.{Claims}
use Rattle.sheet.proofs.CellLaws.{value_number, number_value, cell_tells, cell_in}
use Rattle.sheet.proofs.SlotLaws.{slots_fine, fine_slots, slots_broken, broken_slots}
use Rattle.sheet.proofs.SlotForms.{head_slots_lem, rest_slots_lem}
use Rattle.sheet.proofs.SheetLaws.{sheet_length_lem}
use Rattle.sheet.proofs.PlaceLaws.{place_low}
use Rattle.sheet.proofs.SheetText.{read_accepted, sheet_returns, placed_checked}
use Rattle.sheet.proofs.FloorText.{floor_returns, has_sheet}

module _ (text : List ℕ) where
  head_fine : (line_form text 0 6 ≡ passed) ↔ AllFine text head_slots
  head_fine = (λ h. slots_fine text head_slots (sym (head_slots_lem text) ∙ h), λ a. head_slots_lem text ∙ fine_slots text head_slots a)

  rest_fine : (rest_form text (head_at text) ≡ passed) ↔ AllFine text (rest_slots text (head_at text))
  rest_fine = (
    λ h. slots_fine text (rest_slots text (head_at text)) (sym (rest_slots_lem text (head_at text)) ∙ h),
    λ a. rest_slots_lem text (head_at text) ∙ fine_slots text (rest_slots text (head_at text)) a,
  )

  -- A refusal of the form, or of line 1's limits, has the condition of its row.
  form_row : (k p : ℕ) → form_of text ≡ refused k p → RefusedSheet text k p
  unfolding form_of
  form_row k p h =
      refused_by h
      (λ r.
      let d = slots_broken text head_slots k p (sym (head_slots_lem text) ∙ r) in
      rw d.0 (head_form d.1))
      (λ a h.
      refused_by h
      (λ r. each_refused 2 1 _ _ (field_means (head_at text)) (RefusedSheet text) 6 k p (sym (limits_each (head_at text)) ∙ r)
      (λ i. outside_limit (head_fine.0 a)))
      (λ b r.
      let d = slots_broken text (rest_slots text (head_at text)) k p (sym (rest_slots_lem text (head_at text)) ∙ r) in
      rw d.0 (rest_form_lem (head_fine.0 a) ((limits_mean (head_at text)).0 b) d.1)))

  -- What good form tells, as statements.
  form_means : form_of text ≡ passed → (AllFine text head_slots) × (Limited (head_at text)) × (AllFine text (rest_slots text (head_at text)))
  unfolding form_of
  form_means h =
      let a = then_both _ _ h in
      let b = then_both _ _ a.1 in
      (head_fine.0 a.0, (limits_mean (head_at text)).0 b.0, rest_fine.0 b.1)

  -- A refusal has the condition of its row.
  row : (k p : ℕ) → sheet_verdict text ≡ refused k p → RefusedSheet text k p
  unfolding sheet_verdict
  row k p h =
      refused_by h (form_row k p)
      (λ a r.
      let m = form_means a in
      floor_row m.0 m.1 m.2
      ((floor-theorems.refuses_exactly (floor_at text) (walls_at text) k p).0 (placed_checked text a ∙ r)))

  -- The condition of a row gives its refusal.
  refusal : (k p : ℕ) → RefusedSheet text k p → sheet_verdict text ≡ refused k p
  unfolding sheet_verdict form_of
  refusal k p (head_form b) = then_refused _ (then_refused _ (head_slots_lem text ∙ broken_slots text head_slots p b))
  refusal k p (outside_limit {i} a h) =
      let e : limits_of (head_at text) ≡ refused 2 (1 + i) =
      limits_each (head_at text)
      ∙ first_refuses 2 1 (field_within (head_at text)) (FieldWithin (head_at text)) (field_means (head_at text)) 6 i h
      in
      then_refused _ (then_passed (head_fine.1 a) ∙ then_refused _ e)
  refusal k p (rest_form_lem a l b) =
      then_refused _
      (then_passed (head_fine.1 a) ∙ then_passed ((limits_mean (head_at text)).1 l) ∙ rest_slots_lem text (head_at text)
      ∙ broken_slots text (rest_slots text (head_at text)) p b)
  refusal k p (floor_row a l b r) =
      let good : form_of text ≡ passed = then_passed (head_fine.1 a) ∙ then_passed ((limits_mean (head_at text)).1 l) ∙ rest_fine.1 b in
      then_passed good ∙ sym (placed_checked text good) ∙ (floor-theorems.refuses_exactly (floor_at text) (walls_at text) k p).1 r

-- A cell of the sheet is in the grid exactly if its column and its row are.
cell_means : (text : List ℕ) (w h at : ℕ) → w ≤ 32 → h ≤ 32
    → (cell_at_column text w h at < w * h) ↔ ((number_at text at < w) × (number_at text (at + 5) < h))
unfolding cell_at_column
cell_means text w h at a b = (
  λ l.
      let t = cell_tells w h (value_at text at) (value_at text (at + 5)) l in (
        omega (arith, value_number text at (omega (arith, t.column)), t.column),
        omega (arith, value_number text (at + 5) (omega (arith, t.row_in)), t.row_in),
      ),
  λ g.
      let col : value_at text at ≡ number_at text at = number_value text at _ (omega (arith, g.0)) refl in
      let row : value_at text (at + 5) ≡ number_at text (at + 5) = number_value text (at + 5) _ (omega (arith, g.1)) refl in
      cell_in w h (value_at text at) (value_at text (at + 5)) (omega (arith, g.0)) (omega (arith, g.1)),
)

-- With one dock a carrier's line is document 01's with a count of 1.
one_cell : (w start : ℕ) (φ : ℕ → ℕ) (d : ℕ) → φ 0 ≡ d
    → line_of (start % w ∷ start / w ∷ 1 ∷ cell_numbers w φ 1)
    ≡ field_of (start % w) ++ (field_of (start / w) ++ (field_of 1 ++ line_of (d % w ∷ d / w ∷ [])))
unfolding line_of cell_numbers
one_cell w start φ d h = rw h

goal_place : (xs : List ℕ) (i : ℕ) → get_or (one_each xs) (4 * i) 0 ≡ get_or xs i 0
unfolding one_each
goal_place [] i = refl
goal_place (d ∷ xs) zero = refl
goal_place (d ∷ xs) (suc i) =
    let e : 4 * suc i ≡ suc (suc (suc (suc (4 * i)))) = omega arith in
    rw e (goal_place xs i)

one_goal : (old : OneDockFloor) (i : ℕ) → dock_of (with_one_dock old) i 0 ≡ get_or old.goals i 0
unfolding with_one_dock
one_goal old i =
    let z : 4 * i + 0 ≡ 4 * i = omega arith in
    dock_place (with_one_dock old) i 0 (omega arith) ∙ rw z (goal_place old.goals i)

one_start : (old : OneDockFloor) (i : ℕ) → start_of (with_one_dock old) i ≡ get_or old.starts i 0
unfolding with_one_dock start_of
one_start old i = refl

one_line : (f : Floor) (i start d : ℕ) → start_of f i ≡ start → count_of f i ≡ 1 → dock_of f i 0 ≡ d
    → carrier_line f i
    ≡ field_of (start % f.width) ++ (field_of (start / f.width) ++ (field_of 1 ++ line_of (d % f.width ∷ d / f.width ∷ [])))
unfolding carrier_line
one_line f i start d a b c = rw (a, b) (one_cell f.width start (dock_of f i) d c)

one_count : (old : OneDockFloor) (i : ℕ) → i < 8 → count_of (with_one_dock old) i ≡ 1
unfolding with_one_dock count_of
one_count old i l = get_or-replicate 8 i 1 0 l

one_dock : (old : OneDockFloor) (i : ℕ) → i < 8
    → carrier_line (with_one_dock old) i
    ≡ field_of (get_or old.starts i 0 % old.width) ++ (field_of (get_or old.starts i 0 / old.width)
    ++ (field_of 1 ++ line_of (get_or old.goals i 0 % old.width ∷ get_or old.goals i 0 / old.width ∷ [])))
unfolding with_one_dock
one_dock old i l =
    one_line (with_one_dock old) i (get_or old.starts i 0) (get_or old.goals i 0) (one_start old i) (one_count old i l) (one_goal old i)

pub theorems : Claims
theorems =
    record {
      has_sheet = has_sheet;
      floor_returns = floor_returns;
      sheet_returns = sheet_returns;
      read_accepted = read_accepted;
      refuses_exactly = λ text k p. (row text k p, refusal text k p);
      cell_in_grid = cell_means;
      sheet_length_lem = sheet_length_lem;
      place_low = place_low;
      one_dock = one_dock;
    }
