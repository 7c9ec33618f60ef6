-- Laws of rows that are filled in order, and of rows that are written into a list.
use Prim.Native.Nat.{ℕ, zero, suc, ◌+◌, ◌≤◌, ◌<◌}
use native.Mathlib.Omega.{arith}
use native.Mathlib.Nat.{eq-or-lt_of_le}
use native.Mathlib.Numerals.{add-one}
use mathlib.Core.Bool.{false}
use mathlib.Core.List.{List, [], ◌∷◌}
use mathlib.Core.Logic.{◌⊎◌, inl, inr, ⊎_elim}
use mathlib.Core.Path.{◌≡◌, refl, sym, ◌∙◌}
use lib.ListN.{length, get_or, take, set, replicate, length-set}
use lib.Seq.{get_or-set_same, get_or-set_other, take-suc, length-take-le, drop-drop}
use borrow.Rule.Slice.PartMut.{put_mid}
use Rattle.laws.specs.Memory.{put}
use Rattle.laws.proofs.PutLaws.{put_none, put_next, put_one}
use Rattle.laws.proofs.Lists.{zeros_at}
use Rattle.bitrows.specs.Rows.{has, filled, written}
use Rattle.bitrows.proofs.DigitLaws.{digit_zero}

module _ (rows : List ℕ) (value : ℕ → ℕ) where
  pub length_filled : (n : ℕ) → length (filled rows value n) ≡ length rows
  unfolding filled
  length_filled zero = refl
  length_filled (suc n) = length-set (filled rows value n) n (value n) ∙ length_filled n

  -- The turns of a loop that fills rows in order.
  pub filled_none : rows ≡ filled rows value 0
  unfolding filled
  filled_none = refl

  pub filled_more : (n x : ℕ) (then : List ℕ) → then ≡ filled rows value n → x ≡ value n → set then n x ≡ filled rows value (n + 1)
  unfolding filled
  filled_more n x then e h = rw (add-one, filled) (rw (e, h))

  pub filled_in : (n row : ℕ) → n ≤ length rows → row < n → get_or (filled rows value n) row 0 ≡ value row
  unfolding filled
  filled_in zero row h l = absurd (omega arith)
  filled_in (suc n) row h l =
      ⊎_elim same (λ (e : row < n). other e (filled_in n row (omega arith) e)) (eq-or-lt_of_le (omega arith))
    where
      same : row ≡ n → get_or (set (filled rows value n) n (value n)) row 0 ≡ value row
      same e = rw e (get_or-set_same (filled rows value n) n (value n) 0 (omega (arith, length_filled n)))

      other : row < n → get_or (filled rows value n) row 0 ≡ value row → get_or (set (filled rows value n) n (value n)) row 0 ≡ value row
      other e ih = get_or-set_other (filled rows value n) n row (value n) 0 (λ q. omega arith) ∙ ih

  pub filled_out : (n row : ℕ) → n ≤ row → get_or (filled rows value n) row 0 ≡ get_or rows row 0
  unfolding filled
  filled_out zero row h = refl
  filled_out (suc n) row h = get_or-set_other (filled rows value n) n row (value n) 0 (λ e. omega arith) ∙ filled_out n row (omega arith)

-- No row of zeros has a digit.
pub has_zeros : (n row column : ℕ) → has (replicate n 0) row column ≡ false
unfolding has
has_zeros n row column = rw zeros_at (digit_zero column)

module _ (m : List ℕ) (i : ℕ) (rows : List ℕ) where
  pub length_written : (n : ℕ) → length (written m i rows n) ≡ length m
  unfolding written
  length_written zero = refl
  length_written (suc n) = length-set (written m i rows n) (i + n) (get_or rows n 0) ∙ length_written n

  pub written_none : m ≡ written m i rows 0
  unfolding written
  written_none = refl

  pub written_more : (n : ℕ) (then : List ℕ) → then ≡ written m i rows n → set then (i + n) (get_or rows n 0) ≡ written m i rows (n + 1)
  unfolding written
  written_more n then e = rw (add-one, written) (rw e)

  pub written_in : (n row : ℕ) → i + n ≤ length m → row < n → get_or (written m i rows n) (i + row) 0 ≡ get_or rows row 0
  unfolding written
  written_in zero row h l = absurd (omega arith)
  written_in (suc n) row h l =
      ⊎_elim same (λ (e : row < n). other e (written_in n row (omega arith) e)) (eq-or-lt_of_le (omega arith))
    where
      same : row ≡ n → get_or (set (written m i rows n) (i + n) (get_or rows n 0)) (i + row) 0 ≡ get_or rows row 0
      same e = rw e (get_or-set_same (written m i rows n) (i + n) (get_or rows n 0) 0 (omega (arith, length_written n)))

      other : row < n → get_or (written m i rows n) (i + row) 0 ≡ get_or rows row 0 →
          get_or (set (written m i rows n) (i + n) (get_or rows n 0)) (i + row) 0 ≡ get_or rows row 0
      other e ih = get_or-set_other (written m i rows n) (i + n) (i + row) (get_or rows n 0) 0 (λ q. omega arith) ∙ ih

  pub written_out : (n j : ℕ) → (j < i) ⊎ (i + n ≤ j) → get_or (written m i rows n) j 0 ≡ get_or m j 0
  unfolding written
  written_out zero j h = refl
  written_out (suc n) j h =
      get_or-set_other (written m i rows n) (i + n) j (get_or rows n 0) 0
      (λ e. ⊎_elim (λ (l : j < i). omega arith) (λ (l : i + suc n ≤ j). omega arith) h)
      ∙ written_out n j (⊎_elim (λ (l : j < i). inl l) (λ (l : i + suc n ≤ j). inr (omega arith)) h)

-- Rows written one by one are a block stored, which a copy of the rows into a part leaves too.
written_put : (m : List ℕ) (i : ℕ) (rows : List ℕ) (n : ℕ) → i + n ≤ length m → n ≤ length rows → written m i rows n ≡ put m i (take n rows)
unfolding written
written_put m i rows zero l h = put_none m i
written_put m i rows (suc n) l h =
    let x = get_or rows n 0 in
    let size : length (take n rows) ≡ n = length-take-le n rows (omega arith) in
    rw (take-suc rows n 0 h)
    (put_next m (written m i rows n) (set (written m i rows n) (i + n) x) (take n rows) (x ∷ []) i (i + n)
    (written_put m i rows n (omega arith) (omega arith))
    (put_one (written m i rows n) (i + n) x (omega (arith, length_written m i rows n))) (rw size) (omega arith))

pub written_copied : (m : List ℕ) (i : ℕ) (rows ys : List ℕ) (n k : ℕ) → i + n ≤ length m → n ≤ length rows → k ≡ n → ys ≡ take n rows →
    put_mid i k m ys ≡ written m i rows n
unfolding put
written_copied m i rows ys n k l h e f =
    let size : length (take n rows) ≡ n = length-take-le n rows h in
    let stored = written_put m i rows n l h in
    rw (e, f, drop-drop n i m) (sym (rw size at stored))
