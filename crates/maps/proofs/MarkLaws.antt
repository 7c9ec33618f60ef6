-- The marks of a cell, by the tests that the code makes, and their lengths.
use Prim.Native.Nat.{ℕ, zero, suc, ◌+◌, ◌%◌, ◌≤◌}
use native.Mathlib.Omega.{arith}
use native.Mathlib.Numerals.{add-one}
use mathlib.Core.Bool.{Bool, true, false, cond, ◌||◌}
use mathlib.Core.Path.{◌≡◌, refl, sym, ap, ◌∙◌}
use mathlib.Core.List.{List, [], ◌∷◌}
use borrow.Author.Tests.{eq-eqb, ne_eqb}
use lib.Dec.{eqb, ltb}
use lib.ListN.{length, get_or, take, length-append}
use Rattle.std.specs.List.{list_any}
use Rattle.std.proofs.lemmas.List.Folds.{list_any_more}
use Rattle.floor.specs.declared.Floor.{Floor}
use Rattle.floor.specs.Checks.{start_of, is_dock, among}
use Rattle.printing.proofs.LinesLaws.{lines_within}
use Rattle.reporting.specs.Put.{PutAt}
use Rattle.maps.specs.Text.{one_of}
use Rattle.maps.specs.Map.{start_mark, dock_mark, start_marks, dock_marks, marks_of, shared_below, letter_of, map_mark}
use Rattle.reporting.proofs.LinesLaws.{nothing_put}
use Rattle.maps.proofs.LinesLaws.{first_byte}

-- Any of the first k numbers is c where c is among them.
pub any_among : (xs : List ℕ) (c k : ℕ) → k ≤ length xs → list_any (λ y. eqb y c) (take k xs) ≡ among xs k c
unfolding among
any_among xs c zero l = refl
any_among xs c (suc k) l =
    rw add-one at (list_any_more (λ y. eqb y c) xs k 0 (omega arith)) ∙ ap (λ (b : Bool). b || eqb (get_or xs k 0) c) (any_among xs c k (omega arith))

-- A text that is there by a test, or nothing.
pub cond_there : (x : Bool) (text old new : List ℕ) (at n : ℕ) → x ≡ true → PutAt text old at new n → PutAt (cond x text []) old at new n
cond_there x text old new at n e p = rw e p

pub cond_away : (x : Bool) (text old : List ℕ) (at : ℕ) → x ≡ false → PutAt (cond x text []) old at old at
cond_away x text old at e = rw e (nothing_put old at)

pub cond_short : (x : Bool) (text : List ℕ) (w : ℕ) → length text ≤ w → length (cond x text []) ≤ w
cond_short true text w l = l
cond_short false text w l = omega arith

pub start_short : (f : Floor) (c i : ℕ) → length (start_mark f c i) ≤ 1
unfolding start_mark
start_short f c i = cond_short (eqb (start_of f i) c) ((49 + i) ∷ []) 1 (omega arith)

pub dock_short : (f : Floor) (c i : ℕ) → length (dock_mark f c i) ≤ 1
unfolding dock_mark
dock_short f c i = cond_short (is_dock f i c) ((97 + i) ∷ []) 1 (omega arith)

module _ (f : Floor) (c : ℕ) (few : f.carriers ≤ 8) where
  pub starts_short : length (start_marks f c) ≤ 8
  unfolding start_marks
  starts_short = omega (arith, lines_within (start_mark f c) 1 f.carriers (start_short f c))

  pub docks_short : length (dock_marks f c) ≤ 8
  unfolding dock_marks
  docks_short = omega (arith, lines_within (dock_mark f c) 1 f.carriers (dock_short f c))

  pub marks_short : length (marks_of f c) ≤ 16
  unfolding marks_of
  marks_short = omega (arith, length-append (start_marks f c) (dock_marks f c), starts_short, docks_short)

-- One mark for marks that were put in front of a memory, by their number.
module _ (xs : List ℕ) (none several : ℕ) {old new : List ℕ} {n : ℕ} (p : PutAt xs old 0 new n) where
  pub one_none : n ≡ 0 → one_of xs none several ≡ none
  unfolding one_of
  one_none e = rw (eq-eqb (length xs) 0 (omega (arith, p.behind)))

  pub one_only : n ≡ 1 → one_of xs none several ≡ get_or new 0 0
  unfolding one_of
  one_only e =
      rw (ne_eqb (length xs) 0 (λ (h : length xs ≡ 0). omega (arith, p.behind)), eq-eqb (length xs) 1 (omega (arith, p.behind))) (sym (first_byte p e))

  pub one_several : 2 ≤ n → one_of xs none several ≡ several
  unfolding one_of
  one_several l =
      rw (ne_eqb (length xs) 0 (λ (h : length xs ≡ 0). omega (arith, p.behind)), ne_eqb (length xs) 1 (λ (h : length xs ≡ 1). omega (arith, p.behind)))

-- The loop that counts the cells that are more than one thing: one more that is, one more that is not, and the letter after the last.
module _ (f : Floor) where
  pub shared_start : 0 ≡ shared_below f 0
  unfolding shared_below
  shared_start = refl

  pub shared_there : (d k : ℕ) → k ≡ shared_below f d → ltb 1 (length (marks_of f d)) ≡ true → k + 1 ≡ shared_below f (d + 1)
  unfolding shared_below
  shared_there d k e h = rw (add-one, add-one, h, e)

  pub shared_away : (d k : ℕ) → k ≡ shared_below f d → ltb 1 (length (marks_of f d)) ≡ false → k ≡ shared_below f (d + 1)
  unfolding shared_below
  shared_away d k e h = rw (add-one, h) e

  pub letter_end : (c d k : ℕ) → k ≡ shared_below f d → d ≤ c → c ≤ d → 65 + k % 26 ≡ letter_of f c
  unfolding letter_of
  letter_end c d k e a b =
      let same : d ≡ c = omega arith in
      rw (e, same)

-- The mark of a cell on a map, by the tests in their order.
module _ (f : Floor) (ws : List ℕ) (c : ℕ) where
  pub mark_wall : among ws f.walls c ≡ true → 35 ≡ map_mark f ws c
  unfolding map_mark
  mark_wall e = rw e

  pub mark_else : (k : ℕ) → among ws f.walls c ≡ false → one_of (marks_of f c) 46 (letter_of f c) ≡ k → k ≡ map_mark f ws c
  unfolding map_mark
  mark_else k e h = rw e (sym h)
