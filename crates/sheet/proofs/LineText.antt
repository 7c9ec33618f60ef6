-- Lines read and written: a line in good form is the text of its numbers, and the text of numbers is a line in good form of them.
use Prim.Native.Nat.{ℕ, zero, suc, ◌+◌, ◌*◌, ◌<◌}
use native.Mathlib.Omega.{arith}
use native.Mathlib.Nat.{add-zero}
use mathlib.Core.Path.{◌≡◌, refl, sym, ◌∙◌, ap, ap₂}
use mathlib.Core.List.{List, [], ◌∷◌, ◌++◌}
use borrow.Author.Tests.{ltb-true, eqb-true, lt-ltb, eq-eqb}
use lib.ListN.{length, get_or, length-append}
use lib.Dec.{lit<}
use Rattle.laws.specs.Verdict.{passed}
use Rattle.laws.proofs.VerdictLaws.{then_both, then_passed, demand_holds, demand_passes, turn_passed, turn_passes}
use Rattle.fields.specs.Field.{field_of, number_at}
use Rattle.sheet.specs.Text.{line_of}
use Rattle.fields.specs.Form.{field_form, newline_form, line_form}
use Rattle.sheet.proofs.LineLaws.{field_length}
use Rattle.laws.specs.Memory.{part}
use Rattle.laws.proofs.PartLaws.{part_byte, part_reach, part_is, part_split, part_blocks}
use Rattle.sheet.proofs.FieldLaws.{field_text, text_field}

-- The k numbers from a column on.
unfoldable pub numbers_from : List ℕ → ℕ → ℕ → List ℕ
numbers_from text at zero = []
numbers_from text at (suc k) = number_at text at ∷ numbers_from text (at + 5) k

module _ (text : List ℕ) where
  -- A newline in good form is the byte 10.
  pub newline_tells : (at : ℕ) → newline_form text at ≡ passed → (at < length text) × (get_or text at 0 ≡ 10)
  unfolding newline_form
  newline_tells at h =
      let a = then_both _ _ h in
      (ltb-true _ _ (demand_holds _ 1 (length text) a.0), eqb-true _ _ (demand_holds _ 1 at a.1))

  newline_text : (at : ℕ) → newline_form text at ≡ passed → part text at 1 ≡ 10 ∷ []
  newline_text at h = part_is text at 1 (10 ∷ []) (omega (arith, (newline_tells at h).0)) refl byte
    where
      byte : (i : ℕ) → i < 1 → get_or text (at + i) 0 ≡ get_or (10 ∷ []) i 0
      byte zero l = rw add-zero (newline_tells at h).1
      byte (suc i) l = absurd (omega arith)

  text_newline : (at : ℕ) → part text at 1 ≡ 10 ∷ [] → newline_form text at ≡ passed
  unfolding newline_form
  text_newline at e =
      let there : at < length text = omega (arith, part_reach text at 1 (lit< tt) (ap length e)) in
      let byte : get_or text at 0 ≡ 10 = rw add-zero at (sym (part_byte text at 1 0 (lit< tt)) ∙ ap (λ (xs : List ℕ). get_or xs 0 0) e) in
      then_passed (demand_passes 1 (length text) (lt-ltb _ _ there)) ∙ demand_passes 1 at (eq-eqb _ _ byte)

  -- Fields in good form and a newline behind them are the text of their numbers.
  fields_text : (k at : ℕ) → ((i : ℕ) → i < k → field_form text (at + 5 * i) ≡ passed) → newline_form text (at + 5 * k) ≡ passed
      → part text at (5 * k + 1) ≡ line_of (numbers_from text at k)
  unfolding line_of numbers_from
  fields_text zero at h n =
      let e : at + 5 * 0 ≡ at = omega arith in
      newline_text at (rw e at n)
  fields_text (suc k) at h n =
      let e : 5 * suc k + 1 ≡ 5 + (5 * k + 1) = omega arith in
      let z : at + 5 * 0 ≡ at = omega arith in
      let s : at + 5 * suc k ≡ at + 5 + 5 * k = omega arith in
      rw (e, part_split text at 5 (5 * k + 1))
      (ap₂ (λ (xs ys : List ℕ). xs ++ ys)
      (field_text text at (rw z at (h 0 (omega arith))))
      (fields_text k (at + 5)
      (λ i l. let q : at + 5 * suc i ≡ at + 5 + 5 * i = omega arith in rw q at (h (suc i) (omega arith)))
      (rw s at n)))

  -- A line in good form is the text of its numbers.
  pub line_text : (at k : ℕ) → line_form text at k ≡ passed → part text at (5 * k + 1) ≡ line_of (numbers_from text at k)
  unfolding line_form
  line_text at k h =
      let a = then_both _ _ h in
      fields_text k at (turn_passed _ k a.0) a.1

-- Numbers that a field can write.
abbrev pub Small : List ℕ → Type 0
Small [] = Unit {0}
Small (x ∷ xs) = (x < 100000) × Small xs

-- A line has five bytes a field and one more.
pub line_length : (xs : List ℕ) → length (line_of xs) ≡ 5 * length xs + 1
unfolding line_of
line_length [] = refl
line_length (x ∷ xs) = rw (length-append, field_length, line_length xs) (omega arith)

-- What the text of numbers is: fields in good form, a newline behind them, and those numbers.
pub record LineTells (text : List ℕ) (at : ℕ) (xs : List ℕ) : Type 0 where
  pub fields : (i : ℕ) → i < length xs → field_form text (at + 5 * i) ≡ passed
  pub newline : newline_form text (at + 5 * length xs) ≡ passed
  pub numbers : numbers_from text at (length xs) ≡ xs

-- A field in front of a line.
line_cons : (text xs : List ℕ) (y at : ℕ) → y < 100000 → part text at 5 ≡ field_of y → LineTells text (at + 5) xs
    → LineTells text at (y ∷ xs)
unfolding numbers_from
line_cons text xs y at l e r =
    record {
      fields = field;
      newline = rw shift r.newline;
      numbers = ap₂ (λ (x : ℕ) (xs : List ℕ). x ∷ xs) (text_field text at y l e).1 r.numbers;
    }
  where
    shift : at + 5 * suc (length xs) ≡ at + 5 + 5 * length xs
    shift = omega arith

    field : (i : ℕ) → i < suc (length xs) → field_form text (at + 5 * i) ≡ passed
    field zero h = let z : at + 5 * 0 ≡ at = omega arith in rw z (text_field text at y l e).0
    field (suc i) h = let q : at + 5 * suc i ≡ at + 5 + 5 * i = omega arith in rw q (r.fields i (omega arith))

-- The text of numbers, taken apart.
pub text_fields : (text xs : List ℕ) (at : ℕ) → Small xs → part text at (5 * length xs + 1) ≡ line_of xs → LineTells text at xs
unfolding line_of numbers_from
text_fields text [] at small e =
    let z : at + 5 * 0 ≡ at = omega arith in
    record { fields = λ i l. absurd (omega arith); newline = rw z (text_newline text at e); numbers = refl }
text_fields text (x ∷ xs) at small e =
    let w : 5 * suc (length xs) + 1 ≡ 5 + (5 * length xs + 1) = omega arith in
    let d = part_blocks text (field_of x) (line_of xs) at 5 (5 * length xs + 1) (field_length x) (line_length xs) (omega arith)
    (rw w at e) in
    line_cons text xs x at small.0 d.0 (text_fields text xs (at + 5) small.1 d.1)

-- The text of numbers up to 99999 is a line in good form, of those numbers.
pub text_line : (text xs : List ℕ) (at : ℕ) → Small xs → part text at (5 * length xs + 1) ≡ line_of xs
    → (line_form text at (length xs) ≡ passed) × (numbers_from text at (length xs) ≡ xs)
unfolding line_form
text_line text xs at small e =
    let r = text_fields text xs at small e in
    (then_passed (turn_passes _ (length xs) r.fields) ∙ r.newline, r.numbers)
