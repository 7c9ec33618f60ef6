-- The form of lines is the form of their slots in their order.
use Prim.Native.Nat.{ℕ, zero, suc, ◌+◌, ◌*◌}
use mathlib.Core.Path.{◌≡◌, refl, sym, ◌∙◌, ap, ap₂}
use mathlib.Core.List.{List, [], ◌∷◌, ◌++◌}
use Rattle.floor.specs.declared.Floor.{Floor}
use Rattle.laws.specs.Verdict.{Verdict, passed, refused, ◌then◌, in_turn}
use Rattle.laws.proofs.VerdictLaws.{then_assoc}
use Rattle.fields.specs.Field.{number_at}
use Rattle.fields.specs.Form.{field_form, line_form, counted_form, past_counted, past_pair, column_past, lines_form, end_form}
use Rattle.sheet.specs.Form.{carrier_column, wall_column, rest_form}
use Rattle.sheet.specs.Refused.{Slot, field, newline, finish, field_slots, line_slots, carrier_slots, lines_slots, head_slots, rest_slots}
use Rattle.sheet.proofs.SlotLaws.{slot_form, slots_form}

then_nothing : (x : Verdict) → (x then passed) ≡ x
unfolding ◌then◌
then_nothing passed = refl
then_nothing (refused k p) = refl

module _ (text : List ℕ) where
  slots_append : (xs ys : List Slot) → slots_form text (xs ++ ys) ≡ (slots_form text xs then slots_form text ys)
  unfolding slots_form ◌then◌
  slots_append [] ys = refl
  slots_append (x ∷ xs) ys = rw (slots_append xs ys) (sym (then_assoc (slot_form text x) (slots_form text xs) (slots_form text ys)))

  -- Slots with one more behind them.
  slots_one_more : (xs : List Slot) (x : Slot) → slots_form text (xs ++ (x ∷ [])) ≡ (slots_form text xs then slot_form text x)
  unfolding slots_form
  slots_one_more xs x = slots_append xs (x ∷ []) ∙ rw then_nothing

  fields_slots : (at k : ℕ) → in_turn (λ i. field_form text (at + 5 * i)) k ≡ slots_form text (field_slots at k)
  unfolding in_turn field_slots slots_form slot_form
  fields_slots at zero = refl
  fields_slots at (suc k) = rw (fields_slots at k, slots_one_more (field_slots at k) (field (at + 5 * k)))

  line_slots_lem : (at k : ℕ) → line_form text at k ≡ slots_form text (line_slots at k)
  unfolding line_form line_slots slot_form
  line_slots_lem at k = rw (fields_slots at k, slots_one_more (field_slots at k) (newline (at + 5 * k)))

  carrier_slots_lem : (at : ℕ) → counted_form text at ≡ slots_form text (carrier_slots text at)
  unfolding counted_form carrier_slots slots_form slot_form
  carrier_slots_lem at = rw (line_slots_lem (at + 15) (2 * number_at text (at + 10)))

  -- Lines one behind the other.
  lines_slots_lem : (form : ℕ → Verdict) (line : ℕ → List Slot) → ((i : ℕ) → form i ≡ slots_form text (line i))
      → (k : ℕ) → in_turn form k ≡ slots_form text (lines_slots line k)
  unfolding in_turn lines_slots slots_form
  lines_slots_lem form line h zero = refl
  lines_slots_lem form line h (suc k) = ap₂ ◌then◌ (lines_slots_lem form line h k) (h k) ∙ sym (slots_append (lines_slots line k) (line k))

  pub head_slots_lem : line_form text 0 6 ≡ slots_form text head_slots
  unfolding head_slots
  head_slots_lem = line_slots_lem 0 6

  pub rest_slots_lem : (f : Floor) → rest_form text f ≡ slots_form text (rest_slots text f)
  unfolding rest_form rest_slots slot_form lines_form carrier_column wall_column
  rest_slots_lem f =
      let carriers : ℕ → List Slot = λ i. carrier_slots text (column_past (past_counted text) 31 i) in
      let n = column_past (past_counted text) 31 f.carriers in
      let walls : ℕ → List Slot = λ j. line_slots (column_past past_pair n j) 2 in
      let last = column_past past_pair n f.walls in
      sym
      (slots_append (lines_slots carriers f.carriers) (lines_slots walls f.walls ++ (finish last ∷ []))
      ∙ ap₂ ◌then◌ (sym (lines_slots_lem _ carriers (λ i. carrier_slots_lem _) f.carriers))
      (slots_one_more (lines_slots walls f.walls) (finish last)
      ∙ ap (λ (x : Verdict). x then end_form text last) (sym (lines_slots_lem _ walls (λ j. line_slots_lem _ 2) f.walls))))
