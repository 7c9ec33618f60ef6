-- A set that becomes one cell alone: its rows are emptied, then the cell joins.
use Prim.Native.Nat.{ℕ, ◌+◌, ◌*◌, ◌-◌, ◌/◌, ◌%◌, ◌≤◌, ◌<◌}
use native.Mathlib.Omega.{arith}
use native.Mathlib.Nat.{div-add-mod', mod-lt}
use mathlib.Core.Bool.{true, false, ◌&&◌, ◌||◌}
use mathlib.Core.List.{List}
use mathlib.Core.Logic.{◌⊎◌, inl, inr, ⊎_elim}
use mathlib.Core.Path.{◌≡◌, refl, sym, ◌∙◌}
use borrow.Author.Tests.{eq-eqb}
use lib.Dec.{eqb}
use lib.ListN.{get_or, length-set}
use lib.Seq.{get_or-set_other}
use Rattle.laws.proofs.Tests.{and_both, or_cases, or_inl, or_inr, eqbs_say, true_false_absurd, lt_or_le}
use Rattle.bitrows.specs.Words.{digit}
use Rattle.bitrows.specs.Rows.{has, added}
use Rattle.bitrows.proofs.DigitLaws.{digit_zero}
use Rattle.bitrows.proofs.RowsLaws.{has_added, place_row}
use Rattle.layers.specs.declared.SearchGrid.{SearchGrid}
use Rattle.layers.specs.declared.Place.{Place}
use Rattle.layers.specs.Table.{Grid, PlaceOf, Rewritten, Tidy, in_set, word_of}
use Rattle.layers.specs.Step.{ChangedAt, Empty, Joined, Alone}
use Rattle.layers.proofs.SetLaws.{set_cell, set_has, set_holds, set_same}
use Rattle.layers.proofs.WordLaws.{word_low, word_inside, word_beat, word_same, word_apart}

-- The rows of a beat are emptied.
module _ (g : SearchGrid) (sets after : List ℕ) (t : ℕ) (grid : Grid g) (old : Tidy g sets) (early : t < 64)
    (wiped : Rewritten sets (λ j. 0) (t * 32) 32 after) where
  -- The emptied words have no digit.
  wiped_none : (i column : ℕ) → t * 32 ≤ i → i < t * 32 + 32 → has after i column ≡ false
  unfolding has
  wiped_none i column h l =
      let e : i ≡ t * 32 + (i - t * 32) = omega arith in
      rw e (rw (wiped.inside (i - t * 32) (omega arith)) (digit_zero column))

  -- What is left after the emptying was there.
  wiped_fewer : (i column : ℕ) → has after i column ≡ true → has sets i column ≡ true
  unfolding has
  wiped_fewer i column e = ⊎_elim (λ (h : i < t * 32). rw (← wiped.outside i (inl h)) e) late (lt_or_le i (t * 32))
    where
      late : t * 32 ≤ i → digit (get_or sets i 0) column ≡ true
      late h =
          ⊎_elim (λ (l : i < t * 32 + 32). true_false_absurd e (wiped_none i column h l))
          (λ (l : t * 32 + 32 ≤ i). rw (← wiped.outside i (inr l)) e) (lt_or_le i (t * 32 + 32))

  wiped_tidy : Tidy g after
  wiped_tidy =
      record {
        long = wiped.long ∙ old.long;
        thin = λ i column e. old.thin i column (wiped_fewer i column e);
        rows = λ u row column l e. old.rows u row column l (wiped_fewer (word_of u row) column e);
        empty = wiped.outside 2048 (inr (omega arith)) ∙ old.empty;
      }

  wiped_other : (u d : ℕ) → (u ≡ t → ⊥) → in_set g after u d ≡ in_set g sets u d
  wiped_other u d n =
      set_same g sets after u d grid.thin grid.low (λ row h. wiped.outside (word_of u row) (word_apart u t row n h))

  pub none_made : ChangedAt g sets t after × Empty g after t
  none_made = (record { tidy = wiped_tidy; other = wiped_other }, none)
    where
      none : (d : ℕ) → in_set g after t d ≡ true → ⊥
      none d e =
          let low = place_row g.width d grid.thin (omega (arith, grid.low, set_cell g after t d e)) in
          let at = word_inside t (d / g.width) low in
          true_false_absurd (set_has g after t d e) (wiped_none (word_of t (d / g.width)) (d % g.width) at.0 at.1)

-- A cell joins the set of a beat.
module _ (g : SearchGrid) (sets : List ℕ) (t c : ℕ) (grid : Grid g) (old : Tidy g sets) (early : t < 64) (inside : c < g.cells) where
  -- The place of the cell.
  at : ℕ
  at = word_of t (c / g.width)

  -- The table with the cell.
  end : List ℕ
  end = added sets at (c % g.width)

  row_low : c / g.width < 32
  row_low = place_row g.width c grid.thin (omega (arith, grid.low))

  end_has : (i column : ℕ) → has end i column ≡ (has sets i column || (eqb i at && eqb column (c % g.width)))
  unfolding end at
  end_has i column =
      has_added sets (word_of t (c / g.width)) (c % g.width) i column (omega (arith, word_low t (c / g.width) early row_low, old.long))

  -- A digit of the new table was there, or is the cell's.
  end_cases : (i column : ℕ) → has end i column ≡ true →
      (has sets i column ≡ true) ⊎ ((i ≡ word_of t (c / g.width)) × (column ≡ c % g.width))
  unfolding at
  end_cases i column e = go (or_cases (has sets i column) (eqb i at && eqb column (c % g.width)) (sym (end_has i column) ∙ e))
    where
      go : (has sets i column ≡ true) ⊎ ((eqb i at && eqb column (c % g.width)) ≡ true) →
          (has sets i column ≡ true) ⊎ ((i ≡ word_of t (c / g.width)) × (column ≡ c % g.width))
      go (inl h) = inl h
      go (inr h) = inr (eqbs_say i at column (c % g.width) h)

  whole : c / g.width * g.width + c % g.width ≡ c
  whole = div-add-mod' c g.width

  end_thin : (i column : ℕ) → has end i column ≡ true → column < g.width
  end_thin i column e =
      ⊎_elim (old.thin i column)
      (λ (h : (i ≡ word_of t (c / g.width)) × (column ≡ c % g.width)). rw h.1 (mod-lt c grid.thin)) (end_cases i column e)

  end_rows : (u row column : ℕ) → row < 32 → has end (word_of u row) column ≡ true → row * g.width + column < g.cells
  end_rows u row column l e = go (end_cases (word_of u row) column e)
    where
      go : (has sets (word_of u row) column ≡ true) ⊎ ((word_of u row ≡ word_of t (c / g.width)) × (column ≡ c % g.width)) →
          row * g.width + column < g.cells
      go (inl h) = old.rows u row column l h
      go (inr h) =
          let same : row ≡ c / g.width = word_same u t row (c / g.width) l row_low h.0 in
          rw (same, h.1, whole) inside

  end_tidy : Tidy g end
  unfolding end added at
  end_tidy =
      record {
        long = length-set sets at _ ∙ old.long;
        thin = end_thin;
        rows = end_rows;
        empty = get_or-set_other sets (word_of t (c / g.width)) 2048 _ 0 (λ e. omega (arith, e, word_low t (c / g.width) early row_low))
            ∙ old.empty;
      }

  -- The rows of other beats are as they were.
  end_other : (u row : ℕ) → (u ≡ t → ⊥) → row < 32 → get_or end (word_of u row) 0 ≡ get_or sets (word_of u row) 0
  unfolding end added at
  end_other u row n h =
      get_or-set_other sets (word_of t (c / g.width)) (word_of u row) _ 0 (λ e. n (word_beat u t row (c / g.width) h row_low e))

  end_changed : ChangedAt g sets t end
  end_changed = record { tidy = end_tidy; other = λ u d n. set_same g sets end u d grid.thin grid.low (λ row h. end_other u row n h) }

  end_joined : Joined g sets t c end
  unfolding at
  end_joined =
      record {
        says = says;
        kept = kept;
        holds = set_holds g end t c inside (end_has at (c % g.width) ∙ or_inr (has sets at (c % g.width)) _ here);
      }
    where
      here : (eqb at at && eqb (c % g.width) (c % g.width)) ≡ true
      here = and_both (eq-eqb at at refl) (eq-eqb (c % g.width) (c % g.width) refl)

      kept : (d : ℕ) → in_set g sets t d ≡ true → in_set g end t d ≡ true
      kept d e =
          set_holds g end t d (set_cell g sets t d e)
          (end_has (word_of t (d / g.width)) (d % g.width)
          ∙ or_inl (has sets (word_of t (d / g.width)) (d % g.width)) _ (set_has g sets t d e))

      says : (d : ℕ) → in_set g end t d ≡ true → (in_set g sets t d ≡ true) ⊎ (d ≡ c)
      says d e = go (end_cases (word_of t (d / g.width)) (d % g.width) (set_has g end t d e))
        where
          go : (has sets (word_of t (d / g.width)) (d % g.width) ≡ true) ⊎
              ((word_of t (d / g.width) ≡ word_of t (c / g.width)) × (d % g.width ≡ c % g.width)) →
              (in_set g sets t d ≡ true) ⊎ (d ≡ c)
          go (inl h) = inl (set_holds g sets t d (set_cell g end t d e) h)
          go (inr h) =
              let k : d / g.width ≡ c / g.width =
              word_same t t (d / g.width) (c / g.width)
              (place_row g.width d grid.thin (omega (arith, grid.low, set_cell g end t d e))) row_low
              h.0 in
              inr (sym (div-add-mod' d g.width) ∙ rw (k, h.1) whole)

-- The same of the table that the code makes.
pub more_made : (g : SearchGrid) (sets after : List ℕ) (t c : ℕ) (x : Place) → Grid g → Tidy g sets → t < 64 → c < g.cells →
    PlaceOf g c x → after ≡ added sets (word_of t x.row) x.column → ChangedAt g sets t after × Joined g sets t c after
unfolding end at
more_made g sets after t c x grid old early inside place e =
    rw (e, place.column, place.row) (end_changed g sets t c grid old early inside, end_joined g sets t c grid old early inside)

-- A set that is emptied, and that a cell joins then, has this cell alone.
pub alone_made : (g : SearchGrid) (sets then after : List ℕ) (t c : ℕ) → ChangedAt g sets t then → Empty g then t →
    ChangedAt g then t after → Joined g then t c after → ChangedAt g sets t after × Alone g after t c
alone_made g sets then after t c wiped none only joined = (
  record { tidy = only.tidy; other = λ u d n. only.other u d n ∙ wiped.other u d n },
  record {
    says = λ d e. ⊎_elim (λ (h : in_set g then t d ≡ true). absurd (none d h)) (λ (h : d ≡ c). h) (joined.says d e);
    holds = joined.holds;
  },
)
