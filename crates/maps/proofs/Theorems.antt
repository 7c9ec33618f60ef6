-- At most 20 cells of an accepted floor are more than one thing: the floor has at most 40 starts and docks, and each such cell has two of
-- them. So the capital letters of a map differ. Marks are counted cell by cell, and then carrier by carrier.
use Prim.Native.Nat.{ℕ, zero, suc, ◌+◌, ◌*◌, ◌≤◌, ◌<◌}
use native.Mathlib.Omega.{arith}
use native.Mathlib.Nat.{mod-eq_of_lt}
use mathlib.Core.Bool.{Bool, true, false, cond, ◌||◌}
use mathlib.Core.Path.{◌≡◌, refl, ap}
use mathlib.Core.List.{List, [], ◌∷◌, ◌++◌}
use borrow.Author.Tests.{ltb-true, eqb-true}
use lib.Dec.{eqb, ltb}
use lib.ListN.{length, get_or, length-append}
use Rattle.laws.specs.Verdict.{passed}
use Rattle.floor.specs.declared.Floor.{Floor}
use Rattle.floor.specs.Checks.{check_of, start_of, count_of, docks_of, is_dock, among}
use Rattle.sheet.specs.Text.{lines_of}
use Rattle.maps.specs.Map.{start_mark, dock_mark, start_marks, dock_marks, marks_of, shared_below, letter_of}
use Rattle.maps.specs.Claims.{Claims}
use Rattle.maps.proofs.MapLaws.{markable}

-- The sum of φ 0 to φ (n − 1).
unfoldable sum_of : (ℕ → ℕ) → ℕ → ℕ
sum_of φ zero = 0
sum_of φ (suc n) = sum_of φ n + φ n

sum_both : (φ ψ χ : ℕ → ℕ) (n : ℕ) → ((c : ℕ) → χ c ≤ φ c + ψ c) → sum_of χ n ≤ sum_of φ n + sum_of ψ n
unfolding sum_of
sum_both φ ψ χ zero l = omega arith
sum_both φ ψ χ (suc n) l = omega (arith, sum_both φ ψ χ n l, l n)

-- A mark that is there by a test.
unfoldable marked : Bool → ℕ
marked x = cond x 1 0

-- One cell is x.
one_cell : (x n : ℕ) → (sum_of (λ (c : ℕ). marked (eqb x c)) n ≤ 1) × (n ≤ x → sum_of (λ (c : ℕ). marked (eqb x c)) n ≡ 0)
unfolding sum_of marked
one_cell x zero = (omega arith, λ l. refl)
one_cell x (suc n) = go (eqb x n) refl (one_cell x n)
  where
    go : (y : Bool) → eqb x n ≡ y →
        (sum_of (λ (c : ℕ). marked (eqb x c)) n ≤ 1) × (n ≤ x → sum_of (λ (c : ℕ). marked (eqb x c)) n ≡ 0) →
        (sum_of (λ (c : ℕ). marked (eqb x c)) n + marked (eqb x n) ≤ 1)
        × (suc n ≤ x → sum_of (λ (c : ℕ). marked (eqb x c)) n + marked (eqb x n) ≡ 0)
    go true e ih =
        let same = eqb-true x n e in
        (rw e (omega (arith, ih.1 (omega arith))), λ l. absurd (omega arith))
    go false e ih = (rw e (omega (arith, ih.0)), λ l. rw e (omega (arith, ih.1 (omega arith))))

-- At most k cells are among k numbers.
either : (x y : Bool) → marked (x || y) ≤ marked x + marked y
unfolding marked
either true y = omega arith
either false y = omega arith

none_marked : (n : ℕ) → sum_of (λ (c : ℕ). marked false) n ≡ 0
unfolding sum_of marked
none_marked zero = refl
none_marked (suc n) = omega (arith, none_marked n)

among_cells : (xs : List ℕ) (k n : ℕ) → sum_of (λ (c : ℕ). marked (among xs k c)) n ≤ k
unfolding among
among_cells xs zero n = omega (arith, none_marked n)
among_cells xs (suc k) n =
    omega (
      arith,
      sum_both (λ (c : ℕ). marked (among xs k c)) (λ (c : ℕ). marked (eqb (get_or xs k 0) c))
          (λ (c : ℕ). marked (among xs k c || eqb (get_or xs k 0) c)) n (λ c. either (among xs k c) (eqb (get_or xs k 0) c)),
      among_cells xs k n,
      (one_cell (get_or xs k 0) n).0,
    )

-- The marks of the first k carriers, over the first n cells: at most one start each, and at most four docks.
same_marked : (y : Bool) (x : ℕ) → length (cond y (x ∷ []) []) ≤ marked y
unfolding marked
same_marked true x = omega arith
same_marked false x = omega arith

module _ (f : Floor) (n : ℕ) where
  starts_few : (k : ℕ) → sum_of (λ (c : ℕ). length (lines_of (start_mark f c) k)) n ≤ k
  unfolding lines_of start_mark marked
  starts_few zero = let none : sum_of (λ (c : ℕ). length (lines_of (start_mark f c) 0)) n ≡ 0 = none_marked n in omega arith
  starts_few (suc k) =
      omega (
        arith,
        sum_both (λ (c : ℕ). length (lines_of (start_mark f c) k)) (λ (c : ℕ). marked (eqb (start_of f k) c))
            (λ (c : ℕ). length (lines_of (start_mark f c) k ++ start_mark f c k)) n
            (λ c. omega (arith, length-append (lines_of (start_mark f c) k) (start_mark f c k), same_marked (eqb (start_of f k) c) (49 + k))),
        starts_few k,
        (one_cell (start_of f k) n).0,
      )

  docks_few : (k : ℕ) → ((i : ℕ) → i < k → count_of f i ≤ 4) → sum_of (λ (c : ℕ). length (lines_of (dock_mark f c) k)) n ≤ 4 * k
  unfolding lines_of dock_mark is_dock marked
  docks_few zero four = let none : sum_of (λ (c : ℕ). length (lines_of (dock_mark f c) 0)) n ≡ 0 = none_marked n in omega arith
  docks_few (suc k) four =
      omega (
        arith,
        sum_both (λ (c : ℕ). length (lines_of (dock_mark f c) k)) (λ (c : ℕ). marked (among (docks_of f k) (count_of f k) c))
            (λ (c : ℕ). length (lines_of (dock_mark f c) k ++ dock_mark f c k)) n
            (λ c. omega (
              arith,
              length-append (lines_of (dock_mark f c) k) (dock_mark f c k),
              same_marked (among (docks_of f k) (count_of f k) c) (97 + k),
            )),
        docks_few k (λ i l. four i (omega arith)),
        among_cells (docks_of f k) (count_of f k) n,
        four k (omega arith),
      )

-- A cell that is more than one thing has two marks.
two_each : (f : Floor) (n : ℕ) → 2 * shared_below f n ≤ sum_of (λ (c : ℕ). length (marks_of f c)) n
unfolding sum_of shared_below
two_each f zero = omega arith
two_each f (suc n) = go (ltb 1 (length (marks_of f n))) refl (two_each f n)
  where
    go : (x : Bool) → ltb 1 (length (marks_of f n)) ≡ x → 2 * shared_below f n ≤ sum_of (λ (c : ℕ). length (marks_of f c)) n →
        2 * cond x (suc (shared_below f n)) (shared_below f n) ≤ sum_of (λ (c : ℕ). length (marks_of f c)) n + length (marks_of f n)
    go true e ih = omega (arith, ih, ltb-true 1 (length (marks_of f n)) e)
    go false e ih = omega (arith, ih)

module _ (f : Floor) (ws : List ℕ) (ok : check_of f ws ≡ passed) where
  shared_few : (n : ℕ) → shared_below f n ≤ 20
  unfolding marks_of start_marks dock_marks
  shared_few n =
      let m = markable f ws ok in
      omega (
        arith,
        m.few,
        two_each f n,
        sum_both (λ (c : ℕ). length (start_marks f c)) (λ (c : ℕ). length (dock_marks f c)) (λ (c : ℕ). length (marks_of f c)) n
            (λ c. omega (arith, length-append (start_marks f c) (dock_marks f c))),
        starts_few f n f.carriers,
        docks_few f n f.carriers (λ i l. (m.counted i l).1),
      )

  letter_plain : (c : ℕ) → letter_of f c ≡ 65 + shared_below f c
  unfolding letter_of
  letter_plain c = ap (λ (k : ℕ). 65 + k) (mod-eq_of_lt (omega (arith, shared_few c)))

pub theorems : Claims
theorems = record { few_shared = shared_few; letters_rise = letter_plain }
