-- Numbers in decimal digits: what a digit is, and one more digit.
use Prim.Native.Nat.{ℕ, ◌+◌, ◌-◌, ◌*◌, ◌≤◌, ◌<◌, min}
use native.Mathlib.Omega.{arith}
use native.Mathlib.Numerals.{add-one}
use Rattle.std.specs.Prelude.{Some, None, MatchBool}
use Rattle.std.specs.List.{AllWithin, HoldsAt}
use mathlib.Core.Bool.{Bool, true, false}
use mathlib.Core.Path.{◌≡◌, refl, sym}
use mathlib.Core.List.{List}
use borrow.Author.Tests.{leb-true}
use lib.Dec.{leb}
use lib.ListN.{length, get_or}
use Rattle.laws.proofs.Tests.{and_fst, true_false_absurd}
use Rattle.laws.proofs.HoldLaws.{each_holds, each_true, hold_stop}
use Rattle.desk.specs.Arguments.{is_digit, all_digits, value_in, ReadsDecimal}

pub digit_low : (byte : ℕ) → is_digit byte ≡ true → 48 ≤ byte
unfolding is_digit
digit_low byte h = leb-true 48 byte (and_fst (leb 48 byte) (leb byte 57) h)

pub digit_at : (text : List ℕ) (k : ℕ) → all_digits text ≡ true → k < length text → is_digit (get_or text k 0) ≡ true
unfolding all_digits
digit_at text k h l = each_holds (length text) (λ i. is_digit (get_or text i 0)) h k l

-- All bytes passed the test, or one did not.
pub digits_told : (text : List ℕ) (r : Bool)
    → MatchBool r (AllWithin (λ x. is_digit x ≡ true) text 0 (length text)) ((k : ℕ) × (k < length text) × HoldsAt (λ x. is_digit x ≡ false) text k)
    → r ≡ all_digits text
unfolding all_digits
digits_told text true h = sym (each_true (length text) (λ k. is_digit (get_or text k 0)) (λ i l. h i 0 (omega arith) l))
digits_told text false (k, l, h) = hold_stop (λ i. is_digit (get_or text i 0)) k (length text) l (h 0)

-- A number that is told up to 2^32 only has the same last digits.
pub value_more : (text : List ℕ) (k x w : ℕ) → x ≡ min 4294967296 (value_in text k) → w ≡ min 4294967296 (10 * x + (get_or text k 0 - 48))
    → w ≡ min 4294967296 (value_in text (k + 1))
unfolding value_in
value_more text k x w e f = rw add-one (omega arith)

pub value_start : (text : List ℕ) → 0 ≡ min 4294967296 (value_in text 0)
unfolding value_in
value_start text = refl

-- What is read of a text without bytes, of one with another byte, and of digits.
module _ (text : List ℕ) where
  pub none_read : length text ≡ 0 → ReadsDecimal text None
  unfolding ReadsDecimal
  none_read e = λ d. let l = d.some in absurd (omega arith)

  pub other_read : all_digits text ≡ false → ReadsDecimal text None
  unfolding ReadsDecimal
  other_read e = λ d. true_false_absurd d.digits e

  pub number_read : (n : ℕ) → (length text ≡ 0 → ⊥) → all_digits text ≡ true → n ≡ min 4294967296 (value_in text (length text))
      → ReadsDecimal text (Some n)
  unfolding ReadsDecimal
  number_read n some digits e = (record { digits = digits; some = omega arith }, e)
