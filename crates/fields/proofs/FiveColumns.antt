-- Five bytes are the field of the number that they write exactly if they are spaces, then digits, of which the first is no 0 unless it is
-- the last. One way the number of digits tells the spaces, the other way the spaces tell how large the number is.
use Prim.Native.Nat.{ℕ, ◌+◌, ◌-◌, ◌*◌, ◌/◌, ◌%◌, ◌≤◌, ◌<◌}
use native.Mathlib.Omega.{arith}
use native.Mathlib.Nat.{mod-lt}
use mathlib.Core.Path.{◌≡◌, refl, sym, ◌∙◌, ap}
use mathlib.Core.Bool.{Bool, true, false, ◌&&◌, and-eq-true_iff}
use mathlib.Core.Logic.{◌⊎◌, inl, inr}
use mathlib.Core.List.{List, [], ◌∷◌}
use borrow.Author.Tests.{eq-eqb, eqb-true, lt-ltb, le-ltb}
use lib.Arith.{digits_div, digits_mod}
use lib.ListN.{get_or}
use lib.Dec.{eqb}
use Rattle.laws.proofs.Tests.{lt_or_le}
use Rattle.fields.specs.Field.{column, number, number_at, is_field, is_written}
use Rattle.fields.proofs.WrittenLaws.{and_so, digit_so, none_so, digit_tells, space_so, first_so, last_so, last_tells}
use Rattle.fields.proofs.WrittenLaws.{WrittenForms, written_tells}

-- The digit that counts p's in y = (10 i + x) p + n.
digit_of : (p y i x n : ℕ) → y ≡ (i * 10 + x) * p + n → n < p → x < 10 → y / p % 10 ≡ x
digit_of p y i x n e l t = rw (e, digits_div (i * 10 + x) l) (digits_mod i t)

-- The column of it: a space where x is below p.
space_is : {p x : ℕ} → x < p → column p x ≡ 32
unfolding column
space_is {p} {x} k = rw (lt-ltb x p k)

digit_is : {p x : ℕ} → p ≤ x → column p x ≡ 48 + x / p % 10
unfolding column
digit_is {p} {x} k = rw (le-ltb x p k)

column_right : (p y i x j byte : ℕ) → y ≡ (i * 10 + x) * p + j → j < p → x < 10 → (y < p → byte ≡ 32) → (p ≤ y → byte ≡ 48 + x)
    → eqb byte (column p y) ≡ true
column_right p y i x j byte e l t low high = eq-eqb byte (column p y) (go (lt_or_le y p))
  where
    go : (y < p) ⊎ (p ≤ y) → byte ≡ column p y
    go (inl k) = low k ∙ sym (space_is k)
    go (inr k) = high k ∙ sym (digit_is k ∙ ap (λ (n : ℕ). 48 + n) (digit_of p y i x j e l t))

column_space : {p x byte : ℕ} → x < p → byte ≡ column p x → byte ≡ 32
column_space k e = e ∙ space_is k

column_digit : {p x byte : ℕ} → p ≤ x → byte ≡ column p x → (48 ≤ byte) × (byte ≤ 57)
column_digit {p} {x} k e =
    let h = e ∙ digit_is k in
    let ten : 0 < 10 = omega arith in
    (omega (arith, h), omega (arith, h, mod-lt (x / p) ten))

same_truth : (x y : Bool) → (x ≡ true → y ≡ true) → (y ≡ true → x ≡ true) → x ≡ y
same_truth true y f g = sym (f refl)
same_truth false true f g = g refl
same_truth false false f g = refl

-- The five tests of the definition.
unfoldable tests : ℕ → ℕ → ℕ → ℕ → ℕ → ℕ → Bool
tests x₁ x₂ x₃ x₄ x₅ x =
    eqb x₁ (column 10000 x) && (eqb x₂ (column 1000 x) && (eqb x₃ (column 100 x) && (eqb x₄ (column 10 x) && eqb x₅ (48 + x % 10))))

-- Five bytes with digits up to 9, and a space exactly where the number has no digit.
record Columns (x₁ x₂ x₃ x₄ x₅ x : ℕ) : Type 0 where
  most_a : x₁ ≤ 57
  most_b : x₂ ≤ 57
  most_c : x₃ ≤ 57
  most_d : x₄ ≤ 57
  most_e : x₅ ≤ 57
  least_e : 48 ≤ x₅
  space_a : x < 10000 → x₁ ≡ 32
  space_b : x < 1000 → x₂ ≡ 32
  space_c : x < 100 → x₃ ≡ 32
  space_d : x < 10 → x₄ ≡ 32
  digit_a : 10000 ≤ x → 48 ≤ x₁
  digit_b : 1000 ≤ x → 48 ≤ x₂
  digit_c : 100 ≤ x → 48 ≤ x₃
  digit_d : 10 ≤ x → 48 ≤ x₄

module _ (x₁ x₂ x₃ x₄ x₅ x : ℕ) (is : x ≡ ((((x₁ - 48) * 10 + (x₂ - 48)) * 10 + (x₃ - 48)) * 10 + (x₄ - 48)) * 10 + (x₅ - 48)) where
  columns_so : Columns x₁ x₂ x₃ x₄ x₅ x → tests x₁ x₂ x₃ x₄ x₅ x ≡ true
  unfolding tests
  columns_so h =
      and_so (column_right 10000 x 0 (x₁ - 48) ((((x₂ - 48) * 10 + (x₃ - 48)) * 10 + (x₄ - 48)) * 10 + (x₅ - 48)) x₁ (omega (arith, is))
      (omega (arith, h.most_b, h.most_c, h.most_d, h.most_e)) (omega (arith, h.most_a)) h.space_a
      (λ k. omega (arith, h.digit_a k)))
      (and_so (column_right 1000 x (x₁ - 48) (x₂ - 48) (((x₃ - 48) * 10 + (x₄ - 48)) * 10 + (x₅ - 48)) x₂ (omega (arith, is))
      (omega (arith, h.most_c, h.most_d, h.most_e)) (omega (arith, h.most_b)) h.space_b (λ k. omega (arith, h.digit_b k)))
      (and_so (column_right 100 x ((x₁ - 48) * 10 + (x₂ - 48)) (x₃ - 48) ((x₄ - 48) * 10 + (x₅ - 48)) x₃ (omega (arith, is))
      (omega (arith, h.most_d, h.most_e)) (omega (arith, h.most_c)) h.space_c (λ k. omega (arith, h.digit_c k)))
      (and_so (column_right 10 x (((x₁ - 48) * 10 + (x₂ - 48)) * 10 + (x₃ - 48)) (x₄ - 48) (x₅ - 48) x₄ (omega (arith, is))
      (omega (arith, h.most_e)) (omega (arith, h.most_d)) h.space_d (λ k. omega (arith, h.digit_d k)))
      (eq-eqb x₅ (48 + x % 10) (omega (arith, is, h.most_e, h.least_e))))))

  -- Five equations tell the form, by the number of digits.
  form_so : x₁ ≡ column 10000 x → x₂ ≡ column 1000 x → x₃ ≡ column 100 x → x₄ ≡ column 10 x → (48 ≤ x₅) × (x₅ ≤ 57)
      → is_written (x₁ ∷ x₂ ∷ x₃ ∷ x₄ ∷ x₅ ∷ []) ≡ true
  form_so ea eb ec ed he = upto_one (lt_or_le x 10)
    where
      upto_four : 1000 ≤ x → (x < 10000) ⊎ (10000 ≤ x) → is_written (x₁ ∷ x₂ ∷ x₃ ∷ x₄ ∷ x₅ ∷ []) ≡ true
      upto_four j (inr k) =
          let ha = column_digit {p = 10000} {x = x} {byte = x₁} k ea in
          let hb = column_digit {p = 1000} {x = x} {byte = x₂} (omega (arith, k)) eb in
          let hc = column_digit {p = 100} {x = x} {byte = x₃} (omega (arith, k)) ec in
          let hd = column_digit {p = 10} {x = x} {byte = x₄} (omega (arith, k)) ed in
          first_so x₂ (x₃ ∷ x₄ ∷ x₅ ∷ []) (omega (arith, is, k, hb.1, hc.1, hd.1, he.1), ha.1)
          (digit_so (x₃ ∷ x₄ ∷ x₅ ∷ []) hb (digit_so (x₄ ∷ x₅ ∷ []) hc (digit_so (x₅ ∷ []) hd (digit_so [] he none_so))))
      upto_four k (inl l) =
          let ha = column_space {p = 10000} {x = x} {byte = x₁} l ea in
          let hb = column_digit {p = 1000} {x = x} {byte = x₂} k eb in
          let hc = column_digit {p = 100} {x = x} {byte = x₃} (omega (arith, k)) ec in
          let hd = column_digit {p = 10} {x = x} {byte = x₄} (omega (arith, k)) ed in
          space_so x₂ (x₃ ∷ x₄ ∷ x₅ ∷ []) ha (first_so x₃ (x₄ ∷ x₅ ∷ []) (omega (arith, is, k, ha, hc.1, hd.1, he.1), hb.1)
          (digit_so (x₄ ∷ x₅ ∷ []) hc (digit_so (x₅ ∷ []) hd (digit_so [] he none_so))))

      upto_three : 100 ≤ x → (x < 1000) ⊎ (1000 ≤ x) → is_written (x₁ ∷ x₂ ∷ x₃ ∷ x₄ ∷ x₅ ∷ []) ≡ true
      upto_three j (inr k) = upto_four k (lt_or_le x 10000)
      upto_three k (inl l) =
          let ha = column_space {p = 10000} {x = x} {byte = x₁} (omega (arith, l)) ea in
          let hb = column_space {p = 1000} {x = x} {byte = x₂} l eb in
          let hc = column_digit {p = 100} {x = x} {byte = x₃} k ec in
          let hd = column_digit {p = 10} {x = x} {byte = x₄} (omega (arith, k)) ed in
          space_so x₂ (x₃ ∷ x₄ ∷ x₅ ∷ []) ha (space_so x₃ (x₄ ∷ x₅ ∷ []) hb
          (first_so x₄ (x₅ ∷ []) (omega (arith, is, k, ha, hb, hd.1, he.1), hc.1) (digit_so (x₅ ∷ []) hd (digit_so [] he none_so))))

      upto_two : 10 ≤ x → (x < 100) ⊎ (100 ≤ x) → is_written (x₁ ∷ x₂ ∷ x₃ ∷ x₄ ∷ x₅ ∷ []) ≡ true
      upto_two j (inr k) = upto_three k (lt_or_le x 1000)
      upto_two k (inl l) =
          let ha = column_space {p = 10000} {x = x} {byte = x₁} (omega (arith, l)) ea in
          let hb = column_space {p = 1000} {x = x} {byte = x₂} (omega (arith, l)) eb in
          let hc = column_space {p = 100} {x = x} {byte = x₃} l ec in
          let hd = column_digit {p = 10} {x = x} {byte = x₄} k ed in
          space_so x₂ (x₃ ∷ x₄ ∷ x₅ ∷ []) ha (space_so x₃ (x₄ ∷ x₅ ∷ []) hb (space_so x₄ (x₅ ∷ []) hc
          (first_so x₅ [] (omega (arith, is, k, ha, hb, hc, he.1), hd.1) (digit_so [] he none_so))))

      upto_one : (x < 10) ⊎ (10 ≤ x) → is_written (x₁ ∷ x₂ ∷ x₃ ∷ x₄ ∷ x₅ ∷ []) ≡ true
      upto_one (inr k) = upto_two k (lt_or_le x 100)
      upto_one (inl l) =
          let ha = column_space {p = 10000} {x = x} {byte = x₁} (omega (arith, l)) ea in
          let hb = column_space {p = 1000} {x = x} {byte = x₂} (omega (arith, l)) eb in
          let hc = column_space {p = 100} {x = x} {byte = x₃} (omega (arith, l)) ec in
          let hd = column_space {p = 10} {x = x} {byte = x₄} l ed in
          space_so x₂ (x₃ ∷ x₄ ∷ x₅ ∷ []) ha (space_so x₃ (x₄ ∷ x₅ ∷ []) hb (space_so x₄ (x₅ ∷ []) hc (space_so x₅ [] hd (last_so he))))

  written_so : tests x₁ x₂ x₃ x₄ x₅ x ≡ true → is_written (x₁ ∷ x₂ ∷ x₃ ∷ x₄ ∷ x₅ ∷ []) ≡ true
  unfolding tests
  written_so h =
      let s0 = (and-eq-true_iff _ _).0 h in
      let s1 = (and-eq-true_iff _ _).0 s0.1 in
      let s2 = (and-eq-true_iff _ _).0 s1.1 in
      let s3 = (and-eq-true_iff _ _).0 s2.1 in
      let last = eqb-true x₅ (48 + x % 10) s3.1 in
      form_so (eqb-true x₁ (column 10000 x) s0.0) (eqb-true x₂ (column 1000 x) s1.0) (eqb-true x₃ (column 100 x) s2.0)
      (eqb-true x₄ (column 10 x) s3.0) (omega (arith, last), omega (arith, last))

  -- The form tells the columns, by its spaces.
  columns_tell : is_written (x₁ ∷ x₂ ∷ x₃ ∷ x₄ ∷ x₅ ∷ []) ≡ true → Columns x₁ x₂ x₃ x₄ x₅ x
  columns_tell h = from_a (written_tells x₁ x₂ (x₃ ∷ x₄ ∷ x₅ ∷ []) h)
    where
      from_d : x₁ ≡ 32 → x₂ ≡ 32 → x₃ ≡ 32 → WrittenForms x₄ x₅ [] → Columns x₁ x₂ x₃ x₄ x₅ x
      from_d ha hb hc (inl s) = let hd = s.0 in let he = last_tells s.1 in omega (arith, is, ha, hb, hc, hd, he.0, he.1)
      from_d ha hb hc (inr s) =
          let hd = s.0 in
          let he = (digit_tells x₅ [] s.1).0 in
          omega (arith, is, ha, hb, hc, hd.0, hd.1, he.0, he.1)

      from_c : x₁ ≡ 32 → x₂ ≡ 32 → WrittenForms x₃ x₄ (x₅ ∷ []) → Columns x₁ x₂ x₃ x₄ x₅ x
      from_c ha hb (inl s) = from_d ha hb s.0 (written_tells x₄ x₅ [] s.1)
      from_c ha hb (inr s) =
          let hc = s.0 in
          let d1 = digit_tells x₄ (x₅ ∷ []) s.1 in
          let hd = d1.0 in
          let he = (digit_tells x₅ [] d1.1).0 in
          omega (arith, is, ha, hb, hc.0, hc.1, hd.0, hd.1, he.0, he.1)

      from_b : x₁ ≡ 32 → WrittenForms x₂ x₃ (x₄ ∷ x₅ ∷ []) → Columns x₁ x₂ x₃ x₄ x₅ x
      from_b ha (inl s) = from_c ha s.0 (written_tells x₃ x₄ (x₅ ∷ []) s.1)
      from_b ha (inr s) =
          let hb = s.0 in
          let d1 = digit_tells x₃ (x₄ ∷ x₅ ∷ []) s.1 in
          let hc = d1.0 in
          let d2 = digit_tells x₄ (x₅ ∷ []) d1.1 in
          let hd = d2.0 in
          let he = (digit_tells x₅ [] d2.1).0 in
          omega (arith, is, ha, hb.0, hb.1, hc.0, hc.1, hd.0, hd.1, he.0, he.1)

      from_a : WrittenForms x₁ x₂ (x₃ ∷ x₄ ∷ x₅ ∷ []) → Columns x₁ x₂ x₃ x₄ x₅ x
      from_a (inl s) = from_b s.0 (written_tells x₂ x₃ (x₄ ∷ x₅ ∷ []) s.1)
      from_a (inr s) =
          let ha = s.0 in
          let d1 = digit_tells x₂ (x₃ ∷ x₄ ∷ x₅ ∷ []) s.1 in
          let hb = d1.0 in
          let d2 = digit_tells x₃ (x₄ ∷ x₅ ∷ []) d1.1 in
          let hc = d2.0 in
          let d3 = digit_tells x₄ (x₅ ∷ []) d2.1 in
          let hd = d3.0 in
          let he = (digit_tells x₅ [] d3.1).0 in
          omega (arith, is, ha.0, ha.1, hb.0, hb.1, hc.0, hc.1, hd.0, hd.1, he.0, he.1)

  tests_written : tests x₁ x₂ x₃ x₄ x₅ x ≡ is_written (x₁ ∷ x₂ ∷ x₃ ∷ x₄ ∷ x₅ ∷ [])
  tests_written = same_truth _ _ written_so (λ h. columns_so (columns_tell h))

-- The code's answer, on the text.
pub field_written : (text : List ℕ) (at : ℕ) {x : Bool}
    → x ≡ is_written (get_or text at 0 ∷ get_or text (at + 1) 0 ∷ get_or text (at + 2) 0 ∷ get_or text (at + 3) 0 ∷ get_or text (at + 4) 0 ∷ [])
    → x ≡ is_field text at
unfolding is_field number_at number tests
field_written text at e =
    e ∙ sym (tests_written (get_or text at 0) (get_or text (at + 1) 0) (get_or text (at + 2) 0) (get_or text (at + 3) 0) (get_or text (at + 4) 0)
    (number_at text at) refl)
