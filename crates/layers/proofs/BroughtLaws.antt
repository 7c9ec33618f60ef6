-- What a step brings to a cell from a set of a table, by near cells.
use Prim.Native.Nat.{ℕ, suc, ◌+◌, ◌*◌, ◌/◌, ◌%◌, ◌<◌}
use native.Mathlib.Omega.{arith}
use mathlib.Core.Bool.{true}
use mathlib.Core.List.{List}
use mathlib.Core.Logic.{◌⊎◌, inl, inr, ⊎_elim}
use mathlib.Core.Path.{◌≡◌, refl, sym, ap, ◌∙◌}
use lib.ListN.{get_or}
use Rattle.route.specs.Route.{Neighbours, SharesSide}
use Rattle.route.specs.Moves.{near}
use Rattle.route.proofs.NearLaws.{near_says}
use Rattle.bitrows.specs.Words.{digit}
use Rattle.bitrows.specs.Rows.{has}
use Rattle.bitrows.proofs.RowsLaws.{place_same}
use Rattle.bitrows.proofs.StepLaws.{before, brought}
use Rattle.layers.specs.declared.SearchGrid.{SearchGrid}
use Rattle.layers.specs.Table.{Tidy, in_set, word_of}
use Rattle.layers.proofs.WordLaws.{above_row, below_row, above_says, above_holds, below_says, below_holds}
use Rattle.layers.proofs.SetLaws.{set_has, set_at}
use Rattle.layers.proofs.MemberLaws.{near_row, near_column, near_same, before_says, before_holds, Five, five_says, five_holds}

module _ (g : SearchGrid) (sets : List ℕ) (a row column : ℕ) (tidy : Tidy g sets) (thin : 0 < g.width) (row_low : row < 32)
    (column_low : column < g.width) where
  -- The rows above, here and below.
  over : ℕ
  over = above_row sets a row

  here : ℕ
  here = get_or sets (word_of a row) 0

  under : ℕ
  under = below_row sets a row

  -- Some near cell of the set.
  abbrev Came : Type 0
  Came = (c : ℕ) × (in_set g sets a c ≡ true) × (near g.width c (row * g.width + column) ≡ true)

  -- A digit of a row near by is a cell of the set.
  cell : (row' column' : ℕ) → row' < 32 → digit (get_or sets (word_of a row') 0) column' ≡ true →
      (column' < g.width) × (in_set g sets a (row' * g.width + column') ≡ true)
  unfolding has
  cell row' column' h e = (
    tidy.thin (word_of a row') column' e,
    set_at g sets a row' column' (tidy.thin (word_of a row') column' e) (tidy.rows a row' column' h e) e,
  )

  from_here : digit here column ≡ true → Came
  unfolding here
  from_here e = (row * g.width + column, (cell row column row_low e).1, near_same g.width (row * g.width + column))

  left_of : (column' : ℕ) → column ≡ suc column' → digit here column' ≡ true → Came
  unfolding here
  left_of column' h e =
      let y : (column' < g.width) × (in_set g sets a (row * g.width + column') ≡ true) = cell row column' (omega arith) e in
      (row * g.width + column', y.1, near_row g.width row column' column y.0 column_low (inr h))

  from_left : before (λ j. digit here j) column ≡ true → Came
  from_left e =
      let x : (column' : ℕ) × (column ≡ suc column') × (digit here column' ≡ true) = before_says (λ j. digit here j) column e in
      left_of x.0 x.1 x.2

  from_right : digit here (suc column) ≡ true → Came
  unfolding here
  from_right e =
      let y : (suc column < g.width) × (in_set g sets a (row * g.width + suc column) ≡ true) = cell row (suc column) (omega arith) e in
      (row * g.width + suc column, y.1, near_row g.width row (suc column) column y.0 column_low (inl refl))

  from_under : digit under column ≡ true → Came
  unfolding under
  from_under e =
      let x = below_says sets a row column row_low e in (
        suc row * g.width + column,
        (cell (suc row) column x.0 x.1).1,
        near_column g.width (suc row) row column column_low (inl refl),
      )

  from_over : digit over column ≡ true → Came
  unfolding over
  from_over e =
      let x = above_says sets a row column e in (
        x.0 * g.width + column,
        (cell x.0 column (omega (arith, x.1)) x.2).1,
        near_column g.width x.0 row column column_low (inr x.1),
      )

  -- What a step brings comes from a near cell.
  pub brought_says : brought (above_row sets a row) (get_or sets (word_of a row) 0) (below_row sets a row) column ≡ true →
      (c : ℕ) × (in_set g sets a c ≡ true) × (near g.width c (row * g.width + column) ≡ true)
  unfolding brought over here under
  brought_says e =
      ⊎_elim from_here (⊎_elim from_left (⊎_elim from_right (⊎_elim from_over from_under)))
      (five_says (digit here column) (before (λ j. digit here j) column) (digit here (suc column)) (digit over column)
      (digit under column) e)

  -- And from every near cell.
  module _ (c : ℕ) (inset : in_set g sets a c ≡ true) (low : c / g.width < 32) where
    place : ((row * g.width + column) / g.width ≡ row) × ((row * g.width + column) % g.width ≡ column)
    place = place_same g.width (row * g.width + column) row column column_low refl

    digit_of : (row' column' : ℕ) → c / g.width ≡ row' → c % g.width ≡ column' → digit (get_or sets (word_of a row') 0) column' ≡ true
    unfolding has
    digit_of row' column' h l = rw (h, l) at (set_has g sets a c inset)

    to_here : row * g.width + column ≡ c → digit here column ≡ true
    unfolding here
    to_here h =
        let p : (c / g.width ≡ row) × (c % g.width ≡ column) = place_same g.width c row column column_low (sym h) in
        digit_of row column p.0 p.1

    -- The sides of the cell at row and column at which c is.
    to_left : c / g.width ≡ (row * g.width + column) / g.width → (row * g.width + column) % g.width ≡ suc (c % g.width) →
        before (λ j. digit here j) column ≡ true
    unfolding here
    to_left h l =
        before_holds (λ j. digit here j) column (c % g.width) (sym place.1 ∙ l)
        (digit_of row (c % g.width) (h ∙ place.0) refl)

    to_right : c / g.width ≡ (row * g.width + column) / g.width → c % g.width ≡ suc ((row * g.width + column) % g.width) →
        digit here (suc column) ≡ true
    unfolding here
    to_right h l = digit_of row (suc column) (h ∙ place.0) (l ∙ ap suc place.1)

    to_over : c % g.width ≡ (row * g.width + column) % g.width → (row * g.width + column) / g.width ≡ suc (c / g.width) →
        digit over column ≡ true
    unfolding over
    to_over h l = above_holds sets a row (c / g.width) column (sym place.0 ∙ l) (digit_of (c / g.width) column refl (h ∙ place.1))

    to_under : c % g.width ≡ (row * g.width + column) % g.width → c / g.width ≡ suc ((row * g.width + column) / g.width) →
        digit under column ≡ true
    unfolding under
    to_under h l =
        let p : c / g.width ≡ suc row = l ∙ ap suc place.0 in
        below_holds sets a row column (rw p at low) (digit_of (suc row) column p (h ∙ place.1))

    pub brought_holds : near g.width c (row * g.width + column) ≡ true →
        brought (above_row sets a row) (get_or sets (word_of a row) 0) (below_row sets a row) column ≡ true
    unfolding brought over here under SharesSide Neighbours
    brought_holds n =
        five_holds (digit here column) (before (λ j. digit here j) column) (digit here (suc column)) (digit over column)
        (digit under column)
        (go (near_says g.width c (row * g.width + column) n))
      where
        go : (row * g.width + column ≡ c) ⊎ SharesSide g.width c (row * g.width + column) →
            Five (digit here column ≡ true) (before (λ j. digit here j) column ≡ true) (digit here (suc column) ≡ true)
            (digit over column ≡ true) (digit under column ≡ true)
        go (inl h) = inl (to_here h)
        go (inr (inl (h, inl l))) = inr (inr (inl (to_right h l)))
        go (inr (inl (h, inr l))) = inr (inl (to_left h l))
        go (inr (inr (h, inl l))) = inr (inr (inr (inr (to_under h l))))
        go (inr (inr (h, inr l))) = inr (inr (inr (inl (to_over h l))))
