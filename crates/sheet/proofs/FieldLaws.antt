-- Fields read and written: a good field is the text of its number, and the text of a number is a good field of that number.
use Prim.Native.Nat.{ℕ, zero, suc, ◌+◌, ◌-◌, ◌*◌, ◌/◌, ◌%◌, ◌≤◌, ◌<◌}
use native.Mathlib.Omega.{arith}
use native.Mathlib.Nat.{add-zero, div-eq_of_lt, div-add-mod, div-div-eq-div-mul, mod-eq_of_lt}
use mathlib.Core.Path.{◌≡◌, refl, sym, ◌∙◌, ap}
use mathlib.Core.Bool.{Bool, true, ◌&&◌, cond, and-eq-true_iff}
use mathlib.Core.List.{List}
use borrow.Author.Tests.{lt-ltb, le-ltb, eqb-true, eq-eqb, leb-true, le-leb}
use native.Mathlib.Decide.{dec_lt}
use lib.ListN.{length, get_or}
use lib.Dec.{ltb, lit<}
use Rattle.laws.specs.Verdict.{passed}
use Rattle.laws.proofs.VerdictLaws.{then_both, demand_holds, demand_passes, then_passed}
use Rattle.fields.specs.Field.{column, field_of, number, number_at, is_field}
use Rattle.fields.specs.Form.{field_form}
use Rattle.sheet.specs.Refused.{GoodField}
use Rattle.laws.specs.Memory.{part}
use Rattle.laws.proofs.PartLaws.{part_byte, part_reach, part_is}

-- The value of a column is the digit that it writes; a space counts as 0.
column_value : (p x : ℕ) → column p x - 48 ≡ x / p % 10
unfolding column
column_value p x = go (dec_lt x p)
  where
    go : Dec (x < p) → cond (ltb x p) 32 (48 + x / p % 10) - 48 ≡ x / p % 10
    go (yes l) = rw (lt-ltb x p l, div-eq_of_lt l)
    go (no l) = rw (le-ltb x p (omega arith)) (omega arith)

-- A number of five digits from its digits.
digits_sum : (x k₁ k₂ k₃ k₄ n₀ n₁ n₂ n₃ : ℕ) → 10 * k₁ + n₀ ≡ x → 10 * k₂ + n₁ ≡ k₁ → 10 * k₃ + n₂ ≡ k₂ → 10 * k₄ + n₃ ≡ k₃
    → (((k₄ * 10 + n₃) * 10 + n₂) * 10 + n₁) * 10 + ((48 + n₀) - 48) ≡ x
digits_sum x k₁ k₂ k₃ k₄ n₀ n₁ n₂ n₃ a b c d = omega arith

-- A quotient's last digit.
quotient_digit : (x p : ℕ) → 10 * (x / (p * 10)) + x / p % 10 ≡ x / p
quotient_digit x p = rw (← div-div-eq-div-mul x p 10) (div-add-mod (x / p) 10)

-- The columns of a number up to 99999 write that number.
pub number_columns : (x : ℕ) → x < 100000 → number (column 10000 x) (column 1000 x) (column 100 x) (column 10 x) (48 + x % 10) ≡ x
unfolding number
number_columns x l =
    let top : x / 10000 % 10 ≡ x / 10000 = mod-eq_of_lt (omega arith) in
    rw (column_value 10000 x, column_value 1000 x, column_value 100 x, column_value 10 x, top)
    (digits_sum x (x / 10) (x / 100) (x / 1000) (x / 10000) (x % 10) (x / 10 % 10) (x / 100 % 10) (x / 1000 % 10)
    (div-add-mod x 10) (quotient_digit x 10) (quotient_digit x 100) (quotient_digit x 1000))

-- Five tests that hold, as five equations.
record FiveBytes (text : List ℕ) (at x : ℕ) : Type 0 where
  b0 : get_or text at 0 ≡ column 10000 x
  b1 : get_or text (at + 1) 0 ≡ column 1000 x
  b2 : get_or text (at + 2) 0 ≡ column 100 x
  b3 : get_or text (at + 3) 0 ≡ column 10 x
  b4 : get_or text (at + 4) 0 ≡ 48 + x % 10

-- Two tests that hold.
and_left : (x y : Bool) → (x && y) ≡ true → x ≡ true
and_left x y h = ((and-eq-true_iff x y).0 h).0

and_right : (x y : Bool) → (x && y) ≡ true → y ≡ true
and_right x y h = ((and-eq-true_iff x y).0 h).1

and_both : {x y : Bool} → x ≡ true → y ≡ true → (x && y) ≡ true
and_both {x} {y} h k = (and-eq-true_iff x y).1 (h, k)

is_field_bytes : (text : List ℕ) (at : ℕ) → is_field text at ≡ true → FiveBytes text at (number_at text at)
unfolding is_field
is_field_bytes text at h = search (and_left, and_right, eqb-true) depth 7

bytes_number : (text : List ℕ) (at x : ℕ) → x < 100000 → FiveBytes text at x → number_at text at ≡ x
unfolding number_at
bytes_number text at x l r = rw (r.b0, r.b1, r.b2, r.b3, r.b4) (number_columns x l)

bytes_is_field : (text : List ℕ) (at x : ℕ) → x < 100000 → FiveBytes text at x → is_field text at ≡ true
unfolding is_field
bytes_is_field text at x l r = rw (bytes_number text at x l r) (search (and_both, eq-eqb) depth 7)

-- The five equations, by index.
bytes_index : (text : List ℕ) (at x : ℕ) → FiveBytes text at x → (i : ℕ) → i < 5 → get_or text (at + i) 0 ≡ get_or (field_of x) i 0
unfolding field_of
bytes_index text at x r zero h = rw add-zero r.b0
bytes_index text at x r (suc zero) h = r.b1
bytes_index text at x r (suc (suc zero)) h = r.b2
bytes_index text at x r (suc (suc (suc zero))) h = r.b3
bytes_index text at x r (suc (suc (suc (suc zero)))) h = r.b4
bytes_index text at x r (suc (suc (suc (suc (suc i))))) h = absurd (omega arith)

index_bytes : (text : List ℕ) (at x : ℕ) → ((i : ℕ) → i < 5 → get_or text (at + i) 0 ≡ get_or (field_of x) i 0) → FiveBytes text at x
unfolding field_of
index_bytes text at x byte =
    record {
      b0 = rw add-zero at (byte 0 (lit< tt));
      b1 = byte 1 (lit< tt);
      b2 = byte 2 (lit< tt);
      b3 = byte 3 (lit< tt);
      b4 = byte 4 (lit< tt);
    }

-- Five bytes are the field that they write.
bytes_part : (text : List ℕ) (at x : ℕ) → at + 5 ≤ length text → FiveBytes text at x → part text at 5 ≡ field_of x
unfolding field_of
bytes_part text at x l r = part_is text at 5 (field_of x) l refl (bytes_index text at x r)

part_bytes : (text : List ℕ) (at x : ℕ) → part text at 5 ≡ field_of x → FiveBytes text at x
part_bytes text at x e =
    index_bytes text at x (λ i h. sym (part_byte text at 5 i h) ∙ ap (λ (xs : List ℕ). get_or xs i 0) e)

-- The number of five columns is at most 99999.
columns_small : (x : ℕ) → number (column 10000 x) (column 1000 x) (column 100 x) (column 10 x) (48 + x % 10) < 100000
unfolding number
columns_small x =
    rw (column_value 10000 x, column_value 1000 x, column_value 100 x, column_value 10 x)
    (five (x / 10000 % 10) (x / 1000 % 10) (x / 100 % 10) (x / 10 % 10) (x % 10) (omega arith) (omega arith) (omega arith)
    (omega arith) (omega arith))
  where
    five : (x₁ x₂ x₃ x₄ x₅ : ℕ) → x₁ < 10 → x₂ < 10 → x₃ < 10 → x₄ < 10 → x₅ < 10
        → (((x₁ * 10 + x₂) * 10 + x₃) * 10 + x₄) * 10 + ((48 + x₅) - 48) < 100000
    five x₁ x₂ x₃ x₄ x₅ ha hb hc hd he = omega arith

bytes_small : (text : List ℕ) (at x : ℕ) → FiveBytes text at x → number_at text at < 100000
unfolding number_at
bytes_small text at x r = rw (r.b0, r.b1, r.b2, r.b3, r.b4) (columns_small x)

-- A good field of the text, as a statement.
pub is_field_good : (text : List ℕ) (at : ℕ) → is_field text at ≡ true → GoodField text at
is_field_good text at h =
    let r = is_field_bytes text at h in
    record {
      value = number_at text at;
      small = bytes_small text at (number_at text at) r;
      bytes = bytes_index text at (number_at text at) r;
    }

pub good_is_field : (text : List ℕ) (at : ℕ) → GoodField text at → is_field text at ≡ true
good_is_field text at g = bytes_is_field text at g.value g.small (index_bytes text at g.value g.bytes)

-- Its value is the number of the five bytes.
pub good_number : (text : List ℕ) (at : ℕ) (g : GoodField text at) → number_at text at ≡ g.value
good_number text at g = bytes_number text at g.value g.small (index_bytes text at g.value g.bytes)

-- A field in good form is the text of its number.
pub field_text : (text : List ℕ) (at : ℕ) → field_form text at ≡ passed → part text at 5 ≡ field_of (number_at text at)
unfolding field_form
field_text text at h =
    let a = then_both _ _ h in
    bytes_part text at (number_at text at) (leb-true _ _ (demand_holds _ 1 _ a.0))
    (is_field_bytes text at (demand_holds _ 1 _ a.1))

-- The text of a number up to 99999 is a field in good form, of that number.
pub text_field : (text : List ℕ) (at x : ℕ) → x < 100000 → part text at 5 ≡ field_of x
    → (field_form text at ≡ passed) × (number_at text at ≡ x)
unfolding field_form field_of
text_field text at x l e =
    let r = part_bytes text at x e in (
      then_passed (demand_passes 1 (length text) (le-leb _ _ (part_reach text at 5 (lit< tt) (ap length e))))
          ∙ demand_passes 1 at (bytes_is_field text at x l r),
      bytes_number text at x l r,
    )
