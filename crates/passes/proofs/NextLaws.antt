-- The digits beside a cell in a table, as the walk reads them, and the tests of its next cell.
use Prim.Native.Nat.{ℕ, zero, suc, ◌+◌, ◌*◌, ◌-◌, ◌/◌, ◌%◌, ◌≤◌, ◌<◌}
use native.Mathlib.Omega.{arith}
use native.Mathlib.Numerals.{add-one}
use native.Mathlib.Nat.{eq-or-lt_of_le, mod-lt, div-add-mod', div-eq_of_lt, add-div_right, add-mod_right}
use mathlib.Core.Bool.{Bool, true, false, ◌&&◌}
use mathlib.Core.List.{List}
use mathlib.Core.Logic.{⊎_elim}
use mathlib.Core.Path.{◌≡◌, refl, sym, ap, ◌∙◌}
use borrow.Author.Tests.{le-leb, lt-leb, lt-ltb, le-ltb, ltb-true}
use lib.Dec.{leb, ltb}
use Rattle.laws.proofs.Tests.{and_fst, and_same, lt_or_le, not_true_is_false, same_test}
use Rattle.bitrows.specs.Rows.{has}
use Rattle.bitrows.proofs.RowsLaws.{place_same, place_row}
use Rattle.layers.specs.declared.SearchGrid.{SearchGrid}
use Rattle.layers.specs.declared.Place.{Place}
use Rattle.layers.specs.Table.{Grid, PlaceOf, Tidy, in_set, word_of}
use Rattle.layers.proofs.SetLaws.{set_cell, set_has, set_holds}
use Rattle.passes.specs.Walk.{pick, first_near, next_of, step_of, path_of}
use Rattle.passes.proofs.NearCells.{first_holds}

-- What a digit that is 1 tells of the test before it.
pub within : {x : Bool} (a b : ℕ) (y : Bool) → x ≡ (ltb a b && y) → x ≡ true → a < b
within a b y e h = ltb-true a b (and_fst (ltb a b) y (sym e ∙ h))

-- A test that fails is passed over, and one that holds gives its cell.
module _ (P : ℕ → Type 0) {x z : Bool} (d y : ℕ) where
  passed_over : x ≡ z → x ≡ false → P y → P (pick z d y)
  unfolding pick
  passed_over e h q = rw (← e, h) q

  taken : x ≡ z → x ≡ true → P d → P (pick z d y)
  unfolding pick
  taken e h q = rw (← e, h) q

module _ (g : SearchGrid) (sets : List ℕ) (t c : ℕ) (p : Place) (grid : Grid g) (tidy : Tidy g sets) (at : PlaceOf g c p) where
  abbrev w : ℕ
  w = g.width

  of_c : c / w * w + c % w ≡ c
  of_c = div-add-mod' c w

  -- The places beside.
  pub up_place : w ≤ c → ((c - w) / w ≡ p.row - 1) × ((c - w) % w ≡ p.column)
  up_place h =
      let back : c - w + w ≡ c = omega arith in
      let row : c / w ≡ (c - w) / w + 1 = rw back at (add-div_right (c - w) grid.thin) in
      let column : c % w ≡ (c - w) % w = rw back at (add-mod_right (c - w) w) in
      (omega (arith, at.row, row), sym (at.column ∙ column))

  pub left_place : 0 < p.column → ((c - 1) / w ≡ p.row) × ((c - 1) % w ≡ p.column - 1)
  left_place h =
      let y : ((c - 1) / w ≡ c / w) × ((c - 1) % w ≡ c % w - 1) = place_same w (c - 1) (c / w) (c % w - 1)
      (omega (arith, mod-lt c grid.thin, at.column)) (omega (arith, of_c, at.column)) in
      (y.0 ∙ sym at.row, rw at.column y.1)

  pub right_place : p.column + 1 < w → ((c + 1) / w ≡ p.row) × ((c + 1) % w ≡ p.column + 1)
  right_place h =
      let y : ((c + 1) / w ≡ c / w) × ((c + 1) % w ≡ c % w + 1) = place_same w (c + 1) (c / w) (c % w + 1)
      (omega (arith, at.column)) (omega (arith, of_c)) in
      (y.0 ∙ sym at.row, rw at.column y.1)

  pub down_place : ((c + w) / w ≡ p.row + 1) × ((c + w) % w ≡ p.column)
  down_place = (add-div_right c grid.thin ∙ rw at.row refl, add-mod_right c w ∙ sym at.column)

  -- A row above is a row.
  up_row : 0 < p.row → w ≤ c
  up_row h = ⊎_elim (λ (l : c < w). absurd (omega (arith, at.row, div-eq_of_lt l))) (λ (l : w ≤ c). l) (lt_or_le c w)

  -- A digit of a tidy table is a cell.
  digit_set : (d row column : ℕ) → (d / g.width ≡ row) × (d % g.width ≡ column) → row < 32 →
      has sets (word_of t row) column ≡ in_set g sets t d
  digit_set d row column (h, l) low =
      rw (← h, ← l)
      (same_test _ _ (λ q. set_holds g sets t d (rw (div-add-mod' d w) at (tidy.rows t (d / w) (d % w) (rw h low) q)) q)
      (set_has g sets t d))

  -- The digits above, left, here, right and below.
  pub up_is : (x : Bool) → x ≡ (ltb 0 p.row && has sets (word_of t (p.row - 1)) p.column) →
      x ≡ (leb g.width c && in_set g sets t (c - g.width))
  up_is x e = e ∙ ⊎_elim first later (lt_or_le c w)
    where
      first : c < w → (ltb 0 p.row && has sets (word_of t (p.row - 1)) p.column) ≡ (leb w c && in_set g sets t (c - w))
      first h =
          let z : p.row ≡ 0 = omega (arith, at.row, div-eq_of_lt h) in
          rw (z, lt-leb w c h) refl

      later : w ≤ c → (ltb 0 p.row && has sets (word_of t (p.row - 1)) p.column) ≡ (leb w c && in_set g sets t (c - w))
      later h =
          let row : c / w ≡ (c - w) / w + 1 = (let back : c - w + w ≡ c = omega arith in rw back at (add-div_right (c - w) grid.thin)) in
          rw (lt-ltb 0 p.row (omega (arith, at.row, row)), le-leb w c h)
          (digit_set (c - w) (p.row - 1) p.column (up_place h) (omega (arith, at.low)))

  pub left_is : (x : Bool) → x ≡ (ltb 0 p.column && has sets (word_of t p.row) (p.column - 1)) →
      x ≡ (ltb 0 (c % g.width) && in_set g sets t (c - 1))
  left_is x e = e ∙ and_same _ _ _ there ∙ rw at.column
    where
      there : ltb 0 p.column ≡ true → has sets (word_of t p.row) (p.column - 1) ≡ in_set g sets t (c - 1)
      there q = digit_set (c - 1) p.row (p.column - 1) (left_place (ltb-true 0 p.column q)) at.low

  pub here_is : (x : Bool) → x ≡ has sets (word_of t p.row) p.column → x ≡ in_set g sets t c
  here_is x e = e ∙ digit_set c p.row p.column (sym at.row, sym at.column) at.low

  pub right_is : (x : Bool) → x ≡ (ltb (p.column + 1) g.width && has sets (word_of t p.row) (p.column + 1)) →
      x ≡ (ltb (c % g.width + 1) g.width && in_set g sets t (c + 1))
  right_is x e = e ∙ and_same _ _ _ there ∙ rw at.column
    where
      there : ltb (p.column + 1) w ≡ true → has sets (word_of t p.row) (p.column + 1) ≡ in_set g sets t (c + 1)
      there q = digit_set (c + 1) p.row (p.column + 1) (right_place (ltb-true (p.column + 1) w q)) at.low

  pub down_is : (x : Bool) → x ≡ (ltb (p.row + 1) 32 && has sets (word_of t (p.row + 1)) p.column) → x ≡ in_set g sets t (c + g.width)
  down_is x e = e ∙ ⊎_elim inside outside (lt_or_le (p.row + 1) 32)
    where
      inside : p.row + 1 < 32 → (ltb (p.row + 1) 32 && has sets (word_of t (p.row + 1)) p.column) ≡ in_set g sets t (c + w)
      inside l = rw (lt-ltb (p.row + 1) 32 l) (digit_set (c + w) (p.row + 1) p.column down_place l)

      outside : 32 ≤ p.row + 1 → (ltb (p.row + 1) 32 && has sets (word_of t (p.row + 1)) p.column) ≡ in_set g sets t (c + w)
      outside l =
          rw (le-ltb (p.row + 1) 32 l)
          (sym (not_true_is_false (in_set g sets t (c + w)) (λ i. omega (
            arith,
            l,
            down_place.0,
            place_row w (c + w) grid.thin
                (omega (arith, grid.low, set_cell g sets t (c + w) i)),
          ))))

  -- A place in a row and a column of the grid.
  place : (d row column : ℕ) → (d / w ≡ row) × (d % w ≡ column) → row < 32 → PlaceOf g d (record { row = row; column = column })
  place d row column (h, l) low =
      let thin : column < w = omega (arith, l, mod-lt d grid.thin) in
      record { row = sym h; column = sym l; low = low; thin = thin; narrow = omega (arith, thin, grid.narrow) }

  -- Where the walk goes from here, test for test.
  abbrev Goes : Place → ℕ → Type 0
  Goes p c = PlaceOf g c p

  module _ {x : Bool} (up : x ≡ (ltb 0 p.row && has sets (word_of t (p.row - 1)) p.column)) where
    pub goes_up : x ≡ true → PlaceOf g (next_of g sets t c) (record { row = p.row - 1; column = p.column })
    unfolding next_of first_near
    goes_up h =
        taken (Goes _) _ _ (up_is x up) h
        (place (c - w) (p.row - 1) p.column (up_place (up_row (within _ _ _ up h))) (omega (arith, at.low)))

    module _ (no-up : x ≡ false) {x₂ : Bool} (left : x₂ ≡ (ltb 0 p.column && has sets (word_of t p.row) (p.column - 1))) where
      pub goes_left : x₂ ≡ true → PlaceOf g (next_of g sets t c) (record { row = p.row; column = p.column - 1 })
      unfolding next_of first_near
      goes_left h =
          passed_over (Goes _) _ _ (up_is x up) no-up
          (taken (Goes _) _ _ (left_is x₂ left) h (place (c - 1) p.row (p.column - 1) (left_place (within _ _ _ left h)) at.low))

      module _ (no-left : x₂ ≡ false) {x₃ : Bool} (here : x₃ ≡ has sets (word_of t p.row) p.column) where
        pub goes_here : x₃ ≡ true → PlaceOf g (next_of g sets t c) p
        unfolding next_of first_near
        goes_here h =
            passed_over (Goes p) _ _ (up_is x up) no-up
            (passed_over (Goes p) _ _ (left_is x₂ left) no-left (taken (Goes p) _ _ (here_is x₃ here) h at))

        module _ (no-here : x₃ ≡ false) {x₄ : Bool}
            (right : x₄ ≡ (ltb (p.column + 1) g.width && has sets (word_of t p.row) (p.column + 1))) where
          pub goes_right : x₄ ≡ true → PlaceOf g (next_of g sets t c) (record { row = p.row; column = p.column + 1 })
          unfolding next_of first_near
          goes_right h =
              passed_over (Goes _) _ _ (up_is x up) no-up
              (passed_over (Goes _) _ _ (left_is x₂ left) no-left
              (passed_over (Goes _) _ _ (here_is x₃ here) no-here
              (taken (Goes _) _ _ (right_is x₄ right) h
              (place (c + 1) p.row (p.column + 1) (right_place (within _ _ _ right h)) at.low))))

          module _ (no-right : x₄ ≡ false) {x₅ : Bool}
              (down : x₅ ≡ (ltb (p.row + 1) 32 && has sets (word_of t (p.row + 1)) p.column)) where
            past_right : (y : Place) → Goes y (pick (in_set g sets t (c + w)) (c + w) c) → Goes y (next_of g sets t c)
            unfolding next_of first_near
            past_right y q =
                passed_over (Goes y) _ _ (up_is x up) no-up
                (passed_over (Goes y) _ _ (left_is x₂ left) no-left
                (passed_over (Goes y) _ _ (here_is x₃ here) no-here (passed_over (Goes y) _ _ (right_is x₄ right) no-right q)))

            pub goes_down : x₅ ≡ true → PlaceOf g (next_of g sets t c) (record { row = p.row + 1; column = p.column })
            goes_down h =
                past_right _ (taken (Goes _) _ _ (down_is x₅ down) h
                (place (c + w) (p.row + 1) p.column down_place (within _ _ _ down h)))

            pub goes_nowhere : x₅ ≡ false → PlaceOf g (next_of g sets t c) p
            goes_nowhere h = past_right p (passed_over (Goes p) _ _ (down_is x₅ down) h at)

-- A place is that of its cell.
pub place_cell : (g : SearchGrid) (c : ℕ) (p : Place) → PlaceOf g c p → p.row * g.width + p.column ≡ c
place_cell g c p at = rw (at.row, at.column) (div-add-mod' c g.width)

module _ (g : SearchGrid) (sets : List ℕ) (start a : ℕ) where
  -- The cells of the path: before beat a the next one, then the same, and all in the grid.
  pub path_first : path_of g sets start a 0 ≡ start
  unfolding path_of
  path_first = refl

  pub path_next : (t : ℕ) → t < a → next_of g sets (t + 1) (path_of g sets start a t) ≡ path_of g sets start a (t + 1)
  unfolding path_of step_of pick
  path_next t h = sym (ap (path_of g sets start a) (add-one t) ∙ step)
    where
      step : path_of g sets start a (suc t) ≡ next_of g sets (t + 1) (path_of g sets start a t)
      step = rw (lt-ltb t a h) refl

  pub path_stays : (t : ℕ) → a ≤ t → path_of g sets start a (t + 1) ≡ path_of g sets start a t
  unfolding path_of step_of pick
  path_stays t h = ap (path_of g sets start a) (add-one t) ∙ step
    where
      step : path_of g sets start a (suc t) ≡ path_of g sets start a t
      step = rw (le-ltb t a h) refl

  pub path_last : (t : ℕ) → a ≤ t → path_of g sets start a t ≡ path_of g sets start a a
  path_last zero h = let e : a ≡ 0 = omega arith in rw e
  path_last (suc t) h =
      ⊎_elim (λ (e : a ≡ suc t). rw e) (λ (l : a < suc t). (rw add-one at (path_stays t (omega arith))) ∙ path_last t (omega arith))
      (eq-or-lt_of_le h)

  next_inside : 1 ≤ g.width → (t c : ℕ) → c < g.cells → next_of g sets t c < g.cells
  unfolding next_of
  next_inside thin t c h = first_holds g.width c thin (in_set g sets t) (λ d. d < g.cells) (λ d. set_cell g sets t d) h

  -- The next cell's number is small; it is the path's next cell, with its place.
  pub next_low : (t c : ℕ) (p : Place) → Grid g → c < g.cells → PlaceOf g (next_of g sets t c) p → p.row * g.width + p.column < 1024
  next_low t c p grid h at =
      omega (arith, place_cell g (next_of g sets t c) p at, next_inside grid.thin t c h, grid.low, grid.narrow)

  pub path_more : (t : ℕ) (p : Place) → Grid g → t < a → path_of g sets start a t < g.cells →
      PlaceOf g (next_of g sets (t + 1) (path_of g sets start a t)) p →
      (path_of g sets start a (t + 1) < g.cells) × PlaceOf g (path_of g sets start a (t + 1)) p
  path_more t p grid h l at =
      let e = path_next t h in
      (rw e at (next_inside grid.thin (t + 1) (path_of g sets start a t) l), rw e at at)
