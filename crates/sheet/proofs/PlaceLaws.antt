-- The place of a sheet's refusal is never past the longest sheet, 11,732 bytes, so that it has at most five digits.
use Prim.Native.Nat.{ℕ, zero, suc, ◌+◌, ◌*◌, ◌≤◌, ◌<◌}
use native.Mathlib.Omega.{arith}
use mathlib.Core.Path.{◌≡◌, refl, ◌∙◌}
use mathlib.Core.Bool.{Bool, true, false}
use mathlib.Core.List.{List}
use borrow.Author.Tests.{leb-false, ltb-false}
use lib.ListN.{length}
use Rattle.floor.specs.declared.Floor.{Floor}
use Rattle.laws.specs.Verdict.{Verdict, passed, refused, ◌then◌, demand, in_turn, demand_each}
use Rattle.floor.specs.Checks.{carriers_of, walls_of, rising_of, clear_of, distinct_of, unrepeated_of, places_of}
use Rattle.floor.proofs.LimitsLaws.{Bounds, limits_passed, limits_each}
use Rattle.fields.specs.Field.{number_at}
use Rattle.fields.specs.Form.{field_form, newline_form, line_form, count_form, counted_form, past_counted, column_past, lines_form, end_form}
use Rattle.fields.proofs.CountLaws.{count_tells}
use Rattle.fields.proofs.ColumnLaws.{counted_columns, pair_columns}
use Rattle.sheet.specs.Form.{carrier_column, wall_column, rest_form}
use Rattle.sheet.specs.Values.{head_at, floor_at, walls_at}
use Rattle.sheet.specs.Read.{form_of, sheet_verdict}
use Rattle.sheet.proofs.FormLaws.{form_tells, limits_of_head}

-- A verdict's place is at most b.
Low : ℕ → Verdict → Type 0
Low b passed = Unit {0}
Low b (refused k p) = p ≤ b

module _ (b : ℕ) where
  low_then : (x y : Verdict) → Low b x → (x ≡ passed → Low b y) → Low b (x then y)
  unfolding ◌then◌ Low
  low_then passed y l h = h refl
  low_then (refused k p) y l h = l

  low_demand : (x : Bool) (k p : ℕ) → (x ≡ false → p ≤ b) → Low b (demand x k p)
  unfolding demand Low
  low_demand true k p h = tt
  low_demand false k p h = h refl

  low_turn : (check : ℕ → Verdict) (k : ℕ) → ((i : ℕ) → i < k → in_turn check i ≡ passed → Low b (check i)) → Low b (in_turn check k)
  unfolding in_turn Low
  low_turn check zero h = tt
  low_turn check (suc k) h = low_then (in_turn check k) (check k) (low_turn check k (λ i l. h i (omega arith))) (h k (omega arith))

  low_each : (k p : ℕ) (ok : ℕ → Bool) (n : ℕ) → p + n ≤ b → Low b (demand_each k p ok n)
  unfolding demand_each
  low_each k p ok n l = low_turn (λ i. demand (ok i) k (p + i)) n (λ i h q. low_demand (ok i) k (p + i) (λ e. omega arith))

  low_means : (x : Verdict) (k p : ℕ) → Low b x → x ≡ refused k p → p ≤ b
  unfolding Low
  low_means x k p l e = rw e at l

  module _ (text : List ℕ) where
    low_field : (at : ℕ) → at + 5 ≤ b → Low b (field_form text at)
    unfolding field_form
    low_field at l =
        low_then _ _ (low_demand _ 1 (length text) (λ e. omega (arith, leb-false (at + 5) (length text) e)))
        (λ e. low_demand _ 1 at (λ q. omega arith))

    low_newline : (at : ℕ) → at + 1 ≤ b → Low b (newline_form text at)
    unfolding newline_form
    low_newline at l =
        low_then _ _ (low_demand _ 1 (length text) (λ e. omega (arith, ltb-false at (length text) e)))
        (λ e. low_demand _ 1 at (λ q. omega arith))

    low_line : (at k : ℕ) → at + 5 * k + 1 ≤ b → Low b (line_form text at k)
    unfolding line_form
    low_line at k l =
        low_then _ _ (low_turn (λ i. field_form text (at + 5 * i)) k (λ i h q. low_field (at + 5 * i) (omega arith)))
        (λ e. low_newline (at + 5 * k) (omega arith))

    low_counted : (at : ℕ) → at + 56 ≤ b → Low b (counted_form text at)
    unfolding counted_form count_form
    low_counted at l =
        low_then _ _ (low_field at (omega arith))
        (λ e. low_then _ _ (low_field (at + 5) (omega arith))
        (λ e. low_then _ _ (low_then _ _ (low_field (at + 10) (omega arith)) (λ q. low_demand _ 1 (at + 10) (λ r. omega arith)))
        (λ good. low_line (at + 15) (2 * number_at text (at + 10)) (omega (arith, (count_tells text (at + 10) good).1)))))

module _ (text : List ℕ) where
  low_rest : (f : Floor) → Bounds f → Low 11732 (rest_form text f)
  unfolding rest_form end_form lines_form wall_column carrier_column
  low_rest f s =
      let n = s.carriers.1 in
      let k = s.walls.1 in
      low_then 11732 _ _
      (low_turn 11732 _ f.carriers (λ i l q. low_counted 11732 text _ (omega (arith, n, counted_columns text 31 i q))))
      (λ e.
      let base = counted_columns text 31 f.carriers e in
      let column = pair_columns (column_past (past_counted text) 31 f.carriers) in
      low_then 11732 _ _
      (low_turn 11732 _ f.walls (λ j l q. low_line 11732 text _ 2 (omega (arith, n, k, base, column j))))
      (λ q. low_demand 11732 _ 1 _ (λ r. omega (arith, n, k, base, column f.walls))))

  low_places : (f : Floor) (ws : List ℕ) → Bounds f → Low 11732 (places_of f ws)
  unfolding places_of carriers_of walls_of rising_of clear_of distinct_of unrepeated_of
  low_places f ws s =
      let n = s.carriers.1 in
      let w = s.walls.1 in
      low_then 11732 _ _ (low_each 11732 3 1 _ f.carriers (omega arith))
      (λ a. low_then 11732 _ _ (low_each 11732 3 (f.carriers + 1) _ f.walls (omega arith))
      (λ a. low_then 11732 _ _ (low_each 11732 4 (f.carriers + 1) _ f.walls (omega arith))
      (λ a. low_then 11732 _ _ (low_each 11732 5 1 _ f.carriers (omega arith))
      (λ a. low_then 11732 _ _ (low_each 11732 6 1 _ f.carriers (omega arith))
      (λ a. low_each 11732 17 1 _ f.carriers (omega arith))))))

  low_form : Low 11732 (form_of text)
  unfolding form_of
  low_form =
      low_then 11732 _ _ (low_line 11732 text 0 6 (omega arith))
      (λ e. low_then 11732 _ _ (rw (limits_each (head_at text)) (low_each 11732 2 1 _ 6 (omega arith)))
      (λ q. low_rest (head_at text) (limits_passed (head_at text) q)))

  pub place_low : (k p : ℕ) → sheet_verdict text ≡ refused k p → p ≤ 11732
  unfolding sheet_verdict
  place_low k p e =
      low_means 11732 _ k p
      (low_then 11732 _ _ low_form
      (λ h. low_places (floor_at text) (walls_at text) (limits_passed (floor_at text) (limits_of_head text ∙ (form_tells text h).limited)))) e
