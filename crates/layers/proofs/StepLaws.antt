-- One step of a whole set, from the rows that it writes to the cells of the two sets.
use Prim.Native.Nat.{ℕ, ◌+◌, ◌*◌, ◌-◌, ◌/◌, ◌%◌, ◌≤◌, ◌<◌}
use native.Mathlib.Omega.{arith}
use native.Mathlib.Nat.{mod-lt, div-add-mod'}
use mathlib.Core.Bool.{Bool, true, ◌&&◌}
use mathlib.Core.List.{List}
use mathlib.Core.Logic.{◌⊎◌, inl, inr, ⊎_elim}
use mathlib.Core.Path.{◌≡◌, sym, ap, ◌∙◌}
use lib.ListN.{get_or}
use Rattle.route.specs.Moves.{near}
use Rattle.laws.proofs.Tests.{and_both, and_fst, and_snd, lt_or_le}
use Rattle.bitrows.specs.Words.{digit}
use Rattle.bitrows.specs.Rows.{has, successor_row}
use Rattle.bitrows.proofs.RowsLaws.{place_row}
use Rattle.bitrows.proofs.StepLaws.{brought, narrow_digit, narrow_masked}
use Rattle.layers.specs.declared.SearchGrid.{SearchGrid}
use Rattle.layers.specs.Table.{Grid, Tidy, Rewritten, in_set, slot_of, word_of}
use Rattle.layers.specs.Stripes.{step_word}
use Rattle.layers.specs.Step.{ChangedAt, Beside, Spread}
use Rattle.layers.proofs.WordLaws.{above_row, below_row, slot_low, word_apart, above_word, below_word}
use Rattle.layers.proofs.BroughtLaws.{brought_says, brought_holds}
use Rattle.layers.proofs.SetLaws.{set_cell, set_has, set_holds, set_same}

module _ (g : SearchGrid) (table sets after : List ℕ) (a b : ℕ) (grid : Grid g) (old : Tidy g sets) (ground : Tidy g table) (early : b < 64)
    (apart : a ≡ b → ⊥)
    (x : Rewritten sets (step_word (λ j. get_or sets (a * 32 + j) 0) (λ j. get_or table (b * 32 + j) 0)) (b * 32) 32 after) where
  -- A row that the step writes.
  row_new : (row : ℕ) → row < 32 → get_or after (word_of b row) 0 ≡
      successor_row (above_row sets a row) (get_or sets (word_of a row) 0) (below_row sets a row) (get_or table (word_of b row) 0)
  unfolding step_word word_of
  row_new row h = x.inside (slot_of row) (slot_low row h) ∙ rw (above_word sets a row h, below_word sets a row h)

  -- A digit of the new table was there, or is one of the free table.
  either : (i column : ℕ) → has after i column ≡ true → (has sets i column ≡ true) ⊎ (has table i column ≡ true)
  unfolding has step_word
  either i column e = ⊎_elim (λ (h : i < b * 32). inl (rw (← x.outside i (inl h)) e)) late (lt_or_le i (b * 32))
    where
      written : (j : ℕ) → j < 32 → i ≡ b * 32 + j → digit (get_or table i 0) column ≡ true
      written j h p =
          rw p (narrow_masked _ _ _ (get_or table (b * 32 + j) 0) column (ap (λ (y : ℕ). digit y column) (sym (x.inside j h)) ∙ rw p at e))

      late : b * 32 ≤ i → (digit (get_or sets i 0) column ≡ true) ⊎ (digit (get_or table i 0) column ≡ true)
      late h =
          ⊎_elim (λ (l : i < b * 32 + 32). inr (written (i - b * 32) (omega arith) (omega arith)))
          (λ (l : b * 32 + 32 ≤ i). inl (rw (← x.outside i (inr l)) e)) (lt_or_le i (b * 32 + 32))

  new_tidy : Tidy g after
  new_tidy =
      record {
        long = x.long ∙ old.long;
        thin = λ i column e. ⊎_elim (old.thin i column) (ground.thin i column) (either i column e);
        rows = λ t row column l e. ⊎_elim (old.rows t row column l) (ground.rows t row column l) (either (word_of t row) column e);
        empty = x.outside 2048 (inr (omega arith)) ∙ old.empty;
      }

  -- The sets of other beats are as they were.
  pub step_changed : ChangedAt g sets b after
  step_changed =
      record {
        tidy = new_tidy;
        other = λ t c u. set_same g sets after t c grid.thin grid.low
            (λ row h. x.outside (word_of t row) (word_apart t b row u h));
      }

  same : (c : ℕ) → in_set g after a c ≡ in_set g sets a c
  same c = step_changed.other a c apart

  module _ (d : ℕ) (inside : d < g.cells) where
    whole : d / g.width * g.width + d % g.width ≡ d
    whole = div-add-mod' d g.width

    column_low : d % g.width < g.width
    column_low = mod-lt d grid.thin

    row_low : d / g.width < 32
    row_low = place_row g.width d grid.thin (omega (arith, grid.low))

    -- The step brings something to the cell.
    abbrev come : Bool
    come =
        brought (above_row sets a (d / g.width)) (get_or sets (word_of a (d / g.width)) 0) (below_row sets a (d / g.width)) (d % g.width)

    new_digit : has after (word_of b (d / g.width)) (d % g.width) ≡
        (come && digit (get_or table (word_of b (d / g.width)) 0) (d % g.width))
    unfolding has
    new_digit =
        ap (λ (y : ℕ). digit y (d % g.width)) (row_new (d / g.width) row_low)
        ∙ narrow_digit _ _ _ (get_or table (word_of b (d / g.width)) 0) (d % g.width) (omega (arith, column_low, grid.narrow))

    -- What the step brings is near a cell of the set that it comes from, and in the free table.
    new_says : in_set g after b d ≡ true → (in_set g table b d ≡ true) × Beside g after a d
    unfolding has
    new_says e = (
      set_holds g table b d inside (and_snd come (digit (get_or table (word_of b (d / g.width)) 0) (d % g.width)) both),
      came (rw whole at from),
    )
      where
        both : (come && digit (get_or table (word_of b (d / g.width)) 0) (d % g.width)) ≡ true
        both = sym new_digit ∙ set_has g after b d e

        from : (c : ℕ) × (in_set g sets a c ≡ true) × (near g.width c (d / g.width * g.width + d % g.width) ≡ true)
        from =
            brought_says g sets a (d / g.width) (d % g.width) old grid.thin row_low column_low
            (and_fst come (digit (get_or table (word_of b (d / g.width)) 0) (d % g.width)) both)

        came : (c : ℕ) × (in_set g sets a c ≡ true) × (near g.width c d ≡ true) → Beside g after a d
        came (c, i, e) = (c, same c ∙ i, e)

    new_holds : in_set g table b d ≡ true → Beside g after a d → in_set g after b d ≡ true
    unfolding has
    new_holds i (c, e, h) =
        set_holds g after b d inside
        (new_digit
        ∙ and_both
        (brought_holds g sets a (d / g.width) (d % g.width) old grid.thin row_low column_low c (sym (same c) ∙ e)
        (place_row g.width c grid.thin (omega (arith, grid.low, set_cell g after a c e)))
        (rw whole h))
        (set_has g table b d i))

  -- The set of beat b follows that of beat a.
  pub step_spreads : Spread g table after a b
  step_spreads = record { says = λ d e. new_says d (set_cell g after b d e) e; holds = λ d i. new_holds d (set_cell g table b d i) i }
