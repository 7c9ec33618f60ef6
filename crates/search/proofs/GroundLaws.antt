-- Rows filled, and walls taken out of them.
use Prim.Native.Nat.{ℕ, zero, suc, ◌+◌, ◌*◌, ◌-◌, ◌/◌, ◌%◌, ◌≤◌, ◌<◌}
use native.Mathlib.Omega.{arith}
use native.Mathlib.Nat.{mod-lt, div-add-mod', zero-add}
use mathlib.Core.Bool.{true, false, ◌&&◌, not, and-false}
use mathlib.Core.List.{List, ◌∷◌, ◌++◌}
use mathlib.Core.Path.{◌≡◌, refl, sym, ap, ◌∙◌}
use borrow.Author.Tests.{eq-eqb, ne_eqb}
use lib.Dec.{eqb}
use lib.ListN.{length, get_or, take, drop, replicate, length-replicate}
use lib.Seq.{length-take-le, drop-cons}
use Rattle.std.proofs.lemmas.List.{set_at}
use Rattle.laws.proofs.Tests.{true_false_absurd, not_true_is_false, not_is_true, same_test, not_refutes}
use Rattle.floor.specs.Checks.{among}
use Rattle.floor.proofs.AmongLaws.{among_found, among_place}
use Rattle.bitrows.specs.Rows.{has, filled, dropped_at, Clean}
use Rattle.bitrows.proofs.RowsLaws.{has_dropped_at, fewer_at, length_at}

-- The rows of a grid, as a slice of them filled with one word.
rows_filled : (rows : List ℕ) (x n : ℕ) → n ≤ length rows → replicate n x ++ drop n rows ≡ filled rows (λ row. x) n
unfolding filled
rows_filled rows x zero h = refl
rows_filled rows x (suc n) h =
    sym
    (rw (← rows_filled rows x n (omega arith), drop-cons rows n 0 (omega arith), set_at (replicate n x) (get_or rows n 0) (drop (suc n) rows) x n (length-replicate n x))
    (moved n (drop (suc n) rows)))
  where
    moved : (n : ℕ) (ys : List ℕ) → replicate n x ++ x ∷ ys ≡ x ∷ (replicate n x ++ ys)
    moved zero ys = refl
    moved (suc n) ys = ap (λ (zs : List ℕ). x ∷ zs) (moved n ys)

-- The same as the code makes them.
pub filled_front : (rows new : List ℕ) (x y n : ℕ) → n ≤ length rows → new ≡ replicate (length (take n rows)) y → y ≡ x →
    new ++ drop n rows ≡ filled rows (λ row. x) n
filled_front rows new x y n h e q = rw (e, q, length-take-le n rows h) (rows_filled rows x n h)

-- Rows while walls are taken out: a cell that is none of the n walls is there, and of the walls only those from one place on to before
-- another.
pub record WallsLeft (w cells : ℕ) (ws : List ℕ) (n from end : ℕ) (rows : List ℕ) : Type 0 where
  pub long : length rows ≡ 32
  pub clean : Clean w cells rows
  pub kept : (c : ℕ) → c < cells → among ws n c ≡ false → has rows (c / w) (c % w) ≡ true
  pub left : (j c : ℕ) → j < n → get_or ws j 0 ≡ c → has rows (c / w) (c % w) ≡ true → (from ≤ j) × (j < end)

module _ (w cells : ℕ) (thin : 0 < w) (low : cells ≤ 32 * w) (ws : List ℕ) (n : ℕ) where
  -- The wall at place i taken out, which leaves the others.
  wall_out : (i from end from' end' : ℕ) (rows after : List ℕ) → i < n →
      ((j : ℕ) → from ≤ j → j < end → (j ≡ i → ⊥) → (from' ≤ j) × (j < end')) → WallsLeft w cells ws n from end rows →
      after ≡ dropped_at w cells 0 (get_or ws i 0) rows → WallsLeft w cells ws n from' end' after
  wall_out i from end from' end' rows after l others old made =
      rw made
      (record {
        long = length_at w cells 0 (get_or ws i 0) rows ∙ old.long;
        clean = record {
          thin = λ row column t. old.clean.thin row column (fewer row column t);
          inside = λ row column t. old.clean.inside row column (fewer row column t);
        };
        kept = λ c u t. shown c u ∙ rw (old.kept c u t, ne_eqb (get_or ws i 0) c (λ g. true_false_absurd (among_found ws c i n l g) t));
        left = λ j c m g t. let h = old.left j c m g (fewer (c / w) (c % w) t) in others j h.0 h.1 (other c t j g);
      })
    where
      less : List ℕ
      less = dropped_at w cells 0 (get_or ws i 0) rows

      fewer : (row column : ℕ) → has less row column ≡ true → has rows row column ≡ true
      fewer = fewer_at w cells thin low rows 0 (get_or ws i 0) (omega (arith, old.long))

      shown : (c : ℕ) → c < cells → has less (c / w) (c % w) ≡ (has rows (c / w) (c % w) && not (eqb (get_or ws i 0) c))
      shown c u =
          rw (zero-add, div-add-mod') at
          (has_dropped_at w cells thin low rows 0 (get_or ws i 0) (omega (arith, old.long)) (c / w) (c % w) (mod-lt c thin)
          (rw div-add-mod' u))

      other : (c : ℕ) → has less (c / w) (c % w) ≡ true → (j : ℕ) → get_or ws j 0 ≡ c → j ≡ i → ⊥
      other c t j g l =
          let u : c < cells = rw div-add-mod' at (old.clean.inside (c / w) (c % w) (fewer (c / w) (c % w) t)) in
          true_false_absurd t (shown c u ∙ rw (eq-eqb (get_or ws i 0) c (rw l at g)) (and-false (has rows (c / w) (c % w))))

  -- A turn of the loop: one wall more from the first on, and one from the last back.
  pub both_out : (j : ℕ) (rows then after : List ℕ) → j + j < n → WallsLeft w cells ws n j (n - j) rows →
      then ≡ dropped_at w cells 0 (get_or ws j 0) rows → after ≡ dropped_at w cells 0 (get_or ws (n - 1 - j) 0) then →
      WallsLeft w cells ws n (j + 1) (n - (j + 1)) after
  both_out j rows then after l p first last =
      wall_out (n - 1 - j) (j + 1) (n - j) (j + 1) (n - (j + 1)) then after (omega arith) (λ i a b u. omega arith)
      (wall_out j j (n - j) (j + 1) (n - j) rows then (omega arith) (λ i a b u. omega arith) p first) last

-- No wall left: a cell is there where it is no wall.
pub walls_out : (w cells : ℕ) (ws : List ℕ) (n from end : ℕ) (rows : List ℕ) → end ≤ from → WallsLeft w cells ws n from end rows →
    (c : ℕ) → c < cells → has rows (c / w) (c % w) ≡ not (among ws n c)
walls_out w cells ws n from end rows l p c u =
    same_test _ _
    (λ t. not_is_true (among ws n c) (λ m. let q = among_place ws c n m in let h = p.left q.0 c q.1 q.2 t in omega arith))
    (λ t. p.kept c u (not_true_is_false (among ws n c) (not_refutes (among ws n c) t)))
