-- The words of a table: the word of a row, the row of a word, and the words of the rows above and below. Of the 32 rows of a beat each law
-- about their places is a test, computed once.
use Prim.Native.Nat.{ℕ, zero, suc, ◌+◌, ◌*◌, ◌≤◌, ◌<◌}
use native.Mathlib.Omega.{arith}
use native.Mathlib.Nat.{eq-or-lt_of_le}
use mathlib.Core.Bool.{Bool, true, false, ◌&&◌}
use mathlib.Core.List.{List}
use mathlib.Core.Logic.{◌⊎◌, inl, inr, ⊎_elim}
use mathlib.Core.Path.{◌≡◌, refl, sym, ap, ◌∙◌}
use borrow.Author.Tests.{eqb-true, ltb-true, lt-ltb, le-ltb}
use lib.Dec.{ltb, eqb}
use lib.ListN.{get_or}
use Rattle.laws.proofs.Tests.{and_fst, and_snd, lt_or_le, true_false_absurd}
use Rattle.bitrows.specs.Words.{digit}
use Rattle.bitrows.proofs.DigitLaws.{digit_zero}
use Rattle.layers.specs.Table.{slot_of, word_of, row_of}
use Rattle.layers.specs.Stripes.{over_slot, under_slot, word_at}

-- Every number below n passes a test.
unfoldable all : (ℕ → Bool) → ℕ → Bool
all φ zero = true
all φ (suc n) = φ n && all φ n

all_says : (φ : ℕ → Bool) (n : ℕ) → all φ n ≡ true → (i : ℕ) → i < n → φ i ≡ true
unfolding all
all_says φ zero e i l = absurd (omega arith)
all_says φ (suc n) e i l =
    ⊎_elim (λ (q : i ≡ n). rw q (and_fst (φ n) (all φ n) e)) (λ (q : i < n). all_says φ n (and_snd (φ n) (all φ n) e) i q)
    (eq-or-lt_of_le (omega arith))

pub slot_low : (row : ℕ) → row < 32 → slot_of row < 32
unfolding all slot_of
slot_low row h = ltb-true (slot_of row) 32 (all_says (λ i. ltb (slot_of i) 32) 32 refl row h)

pub row_of_slot : (row : ℕ) → row < 32 → row_of (slot_of row) ≡ row
unfolding all slot_of row_of
row_of_slot row h = eqb-true (row_of (slot_of row)) row (all_says (λ i. eqb (row_of (slot_of i)) i) 32 refl row h)

over_slot_lem : (row : ℕ) → row < 31 → over_slot (slot_of (suc row)) ≡ slot_of row
unfolding all slot_of over_slot
over_slot_lem row h =
    eqb-true (over_slot (slot_of (suc row))) (slot_of row) (all_says (λ i. eqb (over_slot (slot_of (suc i))) (slot_of i)) 31 refl row h)

under_slot_lem : (row : ℕ) → row < 31 → under_slot (slot_of row) ≡ slot_of (suc row)
unfolding all slot_of under_slot
under_slot_lem row h =
    eqb-true (under_slot (slot_of row)) (slot_of (suc row)) (all_says (λ i. eqb (under_slot (slot_of i)) (slot_of (suc i))) 31 refl row h)

pub word_inside : (t row : ℕ) → row < 32 → (t * 32 ≤ word_of t row) × (word_of t row < t * 32 + 32)
unfolding word_of
word_inside t row l = (omega arith, omega (arith, slot_low row l))

pub word_low : (t row : ℕ) → t < 64 → row < 32 → word_of t row < 2048
word_low t row h l = omega (arith, (word_inside t row l).1)

-- One word is one row of one beat.
pub word_beat : (t u row row' : ℕ) → row < 32 → row' < 32 → word_of t row ≡ word_of u row' → t ≡ u
word_beat t u row row' h l e = omega (arith, word_inside t row h, word_inside u row' l)

pub word_same : (t u row row' : ℕ) → row < 32 → row' < 32 → word_of t row ≡ word_of u row' → row ≡ row'
unfolding word_of
word_same t u row row' h l e = sym (row_of_slot row h) ∙ ap row_of slot ∙ row_of_slot row' l
  where
    slot : slot_of row ≡ slot_of row'
    slot = omega (arith, word_beat t u row row' h l e)

-- Words of different beats are apart.
pub word_apart : (t u row : ℕ) → (t ≡ u → ⊥) → row < 32 → (word_of t row < u * 32) ⊎ (u * 32 + 32 ≤ word_of t row)
word_apart t u row apart low = ⊎_elim (λ (l : t < u). inl (omega (arith, inside.1))) after (lt_or_le t u)
  where
    inside : (t * 32 ≤ word_of t row) × (word_of t row < t * 32 + 32)
    inside = word_inside t row low

    after : u ≤ t → (word_of t row < u * 32) ⊎ (u * 32 + 32 ≤ word_of t row)
    after l = inr (⊎_elim (λ (h : u < t). omega (arith, inside.0)) (λ (h : t ≤ u). absurd (apart (omega arith))) (lt_or_le u t))

-- The row above a row at a beat, empty above the first; the row below, empty below the last.
unfoldable pub above_row : List ℕ → ℕ → ℕ → ℕ
above_row sets t zero = 0
above_row sets t (suc row) = get_or sets (word_of t row) 0

unfoldable pub below_row : List ℕ → ℕ → ℕ → ℕ
below_row sets t row = elim (ltb row 31) [ true ↦ get_or sets (word_of t (suc row)) 0 | false ↦ 0 ]

-- They are the words that a step looks at.
module _ (sets : List ℕ) (t : ℕ) where
  word_is : (row : ℕ) → row < 32 → word_at (λ j. get_or sets (t * 32 + j) 0) (slot_of row) ≡ get_or sets (word_of t row) 0
  unfolding word_at word_of
  word_is row h =
      ap (λ (x : Bool). elim x [ true ↦ get_or sets (t * 32 + slot_of row) 0 | false ↦ 0 ]) (lt-ltb (slot_of row) 32 (slot_low row h))

  pub above_word : (row : ℕ) → row < 32 → word_at (λ j. get_or sets (t * 32 + j) 0) (over_slot (slot_of row)) ≡ above_row sets t row
  unfolding word_at over_slot slot_of above_row
  above_word zero h = refl
  above_word (suc row) h = rw (over_slot_lem row (omega arith)) (word_is row (omega arith))

  below_inner : (row : ℕ) → row < 31 → below_row sets t row ≡ get_or sets (word_of t (suc row)) 0
  unfolding below_row
  below_inner row l = ap (λ (x : Bool). elim x [ true ↦ get_or sets (word_of t (suc row)) 0 | false ↦ 0 ]) (lt-ltb row 31 l)

  below_outer : (row : ℕ) → 31 ≤ row → below_row sets t row ≡ 0
  unfolding below_row
  below_outer row l = ap (λ (x : Bool). elim x [ true ↦ get_or sets (word_of t (suc row)) 0 | false ↦ 0 ]) (le-ltb row 31 l)

  below_last : (row : ℕ) → row ≡ 31 → word_at (λ j. get_or sets (t * 32 + j) 0) (under_slot (slot_of row)) ≡ below_row sets t row
  unfolding word_at under_slot slot_of below_row
  below_last row e = rw e refl

  pub below_word : (row : ℕ) → row < 32 → word_at (λ j. get_or sets (t * 32 + j) 0) (under_slot (slot_of row)) ≡ below_row sets t row
  below_word row h =
      ⊎_elim (λ (l : row < 31). rw (under_slot_lem row l) (word_is (suc row) (omega arith)) ∙ sym (below_inner row l))
      (λ (l : 31 ≤ row). below_last row (omega arith)) (lt_or_le row 31)

  -- A digit of the row above or below is a digit of a row.
  pub above_says : (row column : ℕ) → digit (above_row sets t row) column ≡ true →
      (row' : ℕ) × (row ≡ suc row') × (digit (get_or sets (word_of t row') 0) column ≡ true)
  unfolding above_row
  above_says zero column e = true_false_absurd e (digit_zero column)
  above_says (suc row') column e = (row', refl, e)

  pub above_holds : (row row' column : ℕ) → row ≡ suc row' → digit (get_or sets (word_of t row') 0) column ≡ true →
      digit (above_row sets t row) column ≡ true
  unfolding above_row
  above_holds row row' column p e = rw p e

  pub below_says : (row column : ℕ) → row < 32 → digit (below_row sets t row) column ≡ true →
      (suc row < 32) × (digit (get_or sets (word_of t (suc row)) 0) column ≡ true)
  below_says row column h e =
      ⊎_elim (λ (l : row < 31). (omega arith, rw (below_inner row l) at e))
      (λ (l : 31 ≤ row). true_false_absurd (rw (below_outer row l) at e) (digit_zero column)) (lt_or_le row 31)

  pub below_holds : (row column : ℕ) → suc row < 32 → digit (get_or sets (word_of t (suc row)) 0) column ≡ true →
      digit (below_row sets t row) column ≡ true
  below_holds row column l e = rw (below_inner row (omega arith)) e
