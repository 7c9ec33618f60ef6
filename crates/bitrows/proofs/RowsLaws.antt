-- Laws of rows: a digit that is added, places of cells, and cells that are taken away.
use Prim.Native.Nat.{ℕ, ◌+◌, ◌*◌, ◌/◌, ◌%◌, ◌^◌, ◌≤◌, ◌<◌}
use native.Mathlib.Omega.{arith}
use native.Mathlib.Nat.{one-mul, mod-eq_of_lt, div-add-mod', div-lt_iff_lt-mul}
use mathlib.Core.Bool.{Bool, true, false, ◌&&◌, ◌||◌, not, or-false, and-true}
use mathlib.Core.List.{List}
use mathlib.Core.Logic.{⊎_elim}
use mathlib.Core.Path.{◌≡◌, refl, sym, ap, ◌∙◌}
use borrow.Author.Tests.{eqb-true, eq-eqb, ne_eqb, lt-ltb, le-ltb}
use lib.Arith.{digits_div, digits_mod}
use lib.Pow.{pow-lt}
use lib.Bits.{bit_or}
use lib.Dec.{eqb}
use lib.ListN.{length, get_or, set, length-set}
use lib.Seq.{get_or-set_same, get_or-set_other}
use Rattle.bitrows.specs.Words.{digit, without}
use Rattle.bitrows.specs.Rows.{has, added, dropped, dropped_at}
use Rattle.bitrows.proofs.DigitLaws.{digit_or, digit_bit, digit_without}
use Rattle.laws.proofs.Tests.{eq_or_ne, lt_or_le, and_both, and_fst, and_snd, same_test}

-- The word with one digit, as the code makes it.
pub bit_word : (column : ℕ) → column < 32 → 1 * 2 ^ column % 2 ^ 32 ≡ 2 ^ column
bit_word column h = rw one-mul (mod-eq_of_lt (pow-lt h))

pub has_added : (rows : List ℕ) (row column row' column' : ℕ) → row < length rows →
    has (added rows row column) row' column' ≡ (has rows row' column' || (eqb row' row && eqb column' column))
unfolding has added
has_added rows row column row' column' h = ⊎_elim same other (eq_or_ne row' row)
  where
    word : ℕ
    word = bit_or (get_or rows row 0) (2 ^ column)

    same : row' ≡ row →
        digit (get_or (set rows row word) row' 0) column' ≡ (digit (get_or rows row' 0) column' || (eqb row' row && eqb column' column))
    same e = rw (e, get_or-set_same rows row word 0 h, digit_or, digit_bit, eq-eqb row row refl)

    other : (row' ≡ row → ⊥) →
        digit (get_or (set rows row word) row' 0) column' ≡ (digit (get_or rows row' 0) column' || (eqb row' row && eqb column' column))
    other e = rw (get_or-set_other rows row row' word 0 e, ne_eqb row' row e, or-false)

-- Places of a cell: in a grid of width w it is row c / w, column c % w.
pub place_same : (w c row column : ℕ) → column < w → c ≡ row * w + column → (c / w ≡ row) × (c % w ≡ column)
place_same w c row column h e = (rw e (digits_div row h), rw e (digits_mod row h))

pub place_row : (w c : ℕ) → 0 < w → c < 32 * w → c / w < 32
place_row w c p h = (div-lt_iff_lt-mul p).1 h

-- A digit that is taken away.
pub has_dropped : (rows : List ℕ) (row column row' column' : ℕ) → row < length rows →
    has (dropped rows row column) row' column' ≡ (has rows row' column' && not (eqb row' row && eqb column' column))
unfolding has dropped
has_dropped rows row column row' column' h = ⊎_elim same other (eq_or_ne row' row)
  where
    word : ℕ
    word = without (get_or rows row 0) (2 ^ column)

    same : row' ≡ row →
        digit (get_or (set rows row word) row' 0) column' ≡ (digit (get_or rows row' 0) column' && not (eqb row' row && eqb column' column))
    same e = rw (e, get_or-set_same rows row word 0 h, digit_without, digit_bit, eq-eqb row row refl)

    other : (row' ≡ row → ⊥) →
        digit (get_or (set rows row word) row' 0) column' ≡ (digit (get_or rows row' 0) column' && not (eqb row' row && eqb column' column))
    other e = rw (get_or-set_other rows row row' word 0 e, ne_eqb row' row e) (sym (and-true (digit (get_or rows row' 0) column')))

pub length_dropped : (rows : List ℕ) (row column : ℕ) → length (dropped rows row column) ≡ length rows
unfolding dropped
length_dropped rows row column = length-set rows row (without (get_or rows row 0) (2 ^ column))

pub dropped_inside : (w cells i c : ℕ) (rows : List ℕ) → c < cells → dropped rows (i + c / w) (c % w) ≡ dropped_at w cells i c rows
unfolding dropped_at
dropped_inside w cells i c rows h =
    sym (ap (λ (x : Bool). elim x [ true ↦ dropped rows (i + c / w) (c % w) | false ↦ rows ]) (lt-ltb c cells h))

pub dropped_outside : (w cells i c : ℕ) (rows : List ℕ) → cells ≤ c → rows ≡ dropped_at w cells i c rows
unfolding dropped_at
dropped_outside w cells i c rows h =
    sym (ap (λ (x : Bool). elim x [ true ↦ dropped rows (i + c / w) (c % w) | false ↦ rows ]) (le-ltb c cells h))

-- Cell c of a grid of width w taken out of the rows from row i on.
module _ (w cells : ℕ) (thin : 0 < w) (enough : cells ≤ 32 * w) (rows : List ℕ) (i c : ℕ) (long : i + 32 ≤ length rows) where
  row_in : c < cells → i + c / w < length rows
  row_in q = omega (arith, place_row w c thin (omega arith))

  -- The row of a cell in the grid shows every other cell as before.
  pub has_dropped_at : (row column : ℕ) → column < w → row * w + column < cells →
      has (dropped_at w cells i c rows) (i + row) column ≡ (has rows (i + row) column && not (eqb c (row * w + column)))
  has_dropped_at row column l h = ⊎_elim inside outside (lt_or_le c cells)
    where
      says : (eqb (i + row) (i + c / w) && eqb column (c % w)) ≡ true → eqb c (row * w + column) ≡ true
      says t =
          let p : i + row ≡ i + c / w = eqb-true _ _ (and_fst (eqb (i + row) (i + c / w)) (eqb column (c % w)) t) in
          let q : column ≡ c % w = eqb-true _ _ (and_snd (eqb (i + row) (i + c / w)) (eqb column (c % w)) t) in
          let e : row ≡ c / w = omega arith in
          eq-eqb c (row * w + column) (sym (rw (e, q) (div-add-mod' c w)))

      back : eqb c (row * w + column) ≡ true → (eqb (i + row) (i + c / w) && eqb column (c % w)) ≡ true
      back t =
          let u : (c / w ≡ row) × (c % w ≡ column) = place_same w c row column l (eqb-true _ _ t) in
          and_both (eq-eqb (i + row) (i + c / w) (rw u.0)) (eq-eqb column (c % w) (sym u.1))

      inside : c < cells → has (dropped_at w cells i c rows) (i + row) column ≡ (has rows (i + row) column && not (eqb c (row * w + column)))
      inside q =
          rw (← dropped_inside w cells i c rows q)
          (has_dropped rows (i + c / w) (c % w) (i + row) column (row_in q)
          ∙ ap (λ (x : Bool). has rows (i + row) column && not x) (same_test _ _ says back))

      outside : cells ≤ c →
          has (dropped_at w cells i c rows) (i + row) column ≡ (has rows (i + row) column && not (eqb c (row * w + column)))
      outside q =
          rw (← dropped_outside w cells i c rows q, ne_eqb c (row * w + column) (λ e. omega arith))
          (sym (and-true (has rows (i + row) column)))

  -- There is no digit more, and no row more.
  pub fewer_at : (row column : ℕ) → has (dropped_at w cells i c rows) row column ≡ true → has rows row column ≡ true
  fewer_at row column e =
      ⊎_elim
      (λ (q : c < cells). and_fst (has rows row column) (not (eqb row (i + c / w) && eqb column (c % w)))
      (sym (has_dropped rows (i + c / w) (c % w) row column (row_in q)) ∙ (rw (dropped_inside w cells i c rows q) e)))
      (λ (q : cells ≤ c). rw (dropped_outside w cells i c rows q) e) (lt_or_le c cells)

pub length_at : (w cells i c : ℕ) (rows : List ℕ) → length (dropped_at w cells i c rows) ≡ length rows
length_at w cells i c rows =
    ⊎_elim (λ (q : c < cells). ap length (sym (dropped_inside w cells i c rows q)) ∙ length_dropped rows (i + c / w) (c % w))
    (λ (q : cells ≤ c). ap length (sym (dropped_outside w cells i c rows q))) (lt_or_le c cells)
