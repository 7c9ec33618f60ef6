-- Counted lines read and written: a counted line in good form is the text of its numbers, and the other way round.
use Prim.Native.Nat.{ℕ, ◌+◌, ◌*◌, ◌≤◌}
use native.Mathlib.Omega.{arith}
use mathlib.Core.Path.{◌≡◌, ◌∙◌, ap₂}
use mathlib.Core.List.{List, ◌∷◌, ◌++◌}
use lib.ListN.{length}
use Rattle.laws.specs.Verdict.{passed}
use Rattle.laws.specs.Memory.{part}
use Rattle.laws.proofs.PartLaws.{part_split}
use Rattle.laws.proofs.VerdictLaws.{then_both, then_passed, demand_passes, turn_passes}
use Rattle.floor.proofs.LimitsLaws.{within_means}
use Rattle.fields.specs.Field.{number_at}
use Rattle.fields.specs.Form.{line_form, count_form, counted_form, counted_length}
use Rattle.sheet.specs.Text.{line_of}
use Rattle.sheet.proofs.FieldLaws.{field_text}
use Rattle.sheet.proofs.LineText.{numbers_from, line_text, Small, text_fields}

-- A counted line in good form is the text of its numbers.
pub counted_text : (text : List ℕ) (at : ℕ) → counted_form text at ≡ passed
    → part text at (counted_length (number_at text (at + 10)))
    ≡ line_of
    (number_at text at ∷ number_at text (at + 5) ∷ number_at text (at + 10) ∷ numbers_from text (at + 15) (2 * number_at text (at + 10)))
unfolding counted_form count_form counted_length line_of
counted_text text at h =
    let c = number_at text (at + 10) in
    let a = then_both _ _ h in
    let b = then_both _ _ a.1 in
    let d = then_both _ _ b.1 in
    let e = then_both _ _ d.0 in
    let size : 16 + 10 * c ≡ 5 + (5 + (5 + (5 * (2 * c) + 1))) = omega arith in
    let two : at + 5 + 5 ≡ at + 10 = omega arith in
    let three : at + 10 + 5 ≡ at + 15 = omega arith in
    rw (
      size,
      part_split text at 5 (5 + (5 + (5 * (2 * c) + 1))),
      part_split text (at + 5) 5 (5 + (5 * (2 * c) + 1)),
      two,
      part_split text (at + 10) 5 (5 * (2 * c) + 1),
      three,
    )
    (ap₂ (λ (xs ys : List ℕ). xs ++ ys) (field_text text at a.0)
    (ap₂ (λ (xs ys : List ℕ). xs ++ ys) (field_text text (at + 5) b.0)
    (ap₂ (λ (xs ys : List ℕ). xs ++ ys) (field_text text (at + 10) e.0) (line_text text (at + 15) (2 * c) d.1))))

-- The first three of the numbers from a column on, and the others.
module _ (text : List ℕ) (at x y count : ℕ) (xs : List ℕ)
    (read : numbers_from text at (length (x ∷ y ∷ count ∷ xs)) ≡ x ∷ y ∷ count ∷ xs) where
  numbers_first : number_at text at ≡ x
  unfolding numbers_from
  numbers_first = (cc)

  numbers_second : number_at text (at + 5) ≡ y
  unfolding numbers_from
  numbers_second = (cc)

  numbers_third : number_at text (at + 5 + 5) ≡ count
  unfolding numbers_from
  numbers_third = (cc)

  numbers_others : numbers_from text (at + 5 + 5 + 5) (length xs) ≡ xs
  unfolding numbers_from
  numbers_others = (cc)

-- What the text of a counted line's numbers tells.
pub record CountedTells (text : List ℕ) (at x y count : ℕ) (xs : List ℕ) : Type 0 where
  pub form : counted_form text at ≡ passed
  pub first : number_at text at ≡ x
  pub second : number_at text (at + 5) ≡ y
  pub third : number_at text (at + 10) ≡ count
  pub others : numbers_from text (at + 15) (2 * count) ≡ xs

pub text_counted : (text : List ℕ) (at x y count : ℕ) (xs : List ℕ) → Small (x ∷ y ∷ count ∷ xs) → length xs ≡ 2 * count → 1 ≤ count →
    count ≤ 4
    → part text at (counted_length count) ≡ line_of (x ∷ y ∷ count ∷ xs) → CountedTells text at x y count xs
unfolding counted_form count_form counted_length numbers_from line_form
text_counted text at x y count xs small n least most e =
    let size : 16 + 10 * count ≡ 5 * length (x ∷ y ∷ count ∷ xs) + 1 = omega (arith, n) in
    let r = text_fields text (x ∷ y ∷ count ∷ xs) at small (rw size at e) in
    let read = r.numbers in
    let z : at + 5 * 0 ≡ at = omega arith in
    let two : at + 5 + 5 ≡ at + 10 = omega arith in
    let three : at + 5 + 5 + 5 ≡ at + 15 = omega arith in
    let third : number_at text (at + 10) ≡ count = rw two at (numbers_third text at x y count xs read) in
    let others : numbers_from text (at + 15) (length xs) ≡ xs = rw three at (numbers_others text at x y count xs read) in
    let end : at + 5 * length (x ∷ y ∷ count ∷ xs) ≡ at + 15 + 5 * (2 * count) = omega (arith, n) in
    record {
      form =
          then_passed (rw z at (r.fields 0 (omega arith)))
          ∙ then_passed (r.fields 1 (omega arith))
          ∙ then_passed
          (then_passed (r.fields 2 (omega arith))
          ∙ demand_passes 1 (at + 10)
          ((within_means 1 4 (number_at text (at + 10))).1 (omega (arith, third, least), omega (arith, third, most))))
          ∙ rw third
          (then_passed
          (turn_passes _ (2 * count)
          (λ i l. let q : at + 5 * (3 + i) ≡ at + 15 + 5 * i = omega arith in rw q at (r.fields (3 + i) (omega (arith, n, l)))))
          ∙ rw end at r.newline);
      first = numbers_first text at x y count xs read;
      second = numbers_second text at x y count xs read;
      third = third;
      others = rw n at others;
    }
