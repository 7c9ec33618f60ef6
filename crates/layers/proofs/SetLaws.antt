-- Cells of the sets of a table, by number and by row and column.
use Prim.Native.Nat.{ℕ, ◌+◌, ◌*◌, ◌/◌, ◌%◌, ◌≤◌, ◌<◌}
use native.Mathlib.Omega.{arith}
use mathlib.Core.Bool.{true, ◌&&◌}
use mathlib.Core.List.{List}
use mathlib.Core.Logic.{⊎_elim}
use mathlib.Core.Path.{◌≡◌, refl}
use borrow.Author.Tests.{ltb-true, lt-ltb, le-ltb}
use lib.Dec.{ltb}
use lib.ListN.{get_or, replicate, length-replicate}
use Rattle.laws.proofs.Lists.{zeros_at}
use Rattle.laws.proofs.Tests.{and_both, and_fst, and_snd, lt_or_le, true_false_absurd}
use Rattle.bitrows.specs.Words.{digit}
use Rattle.bitrows.specs.Rows.{has}
use Rattle.bitrows.proofs.FillLaws.{has_zeros}
use Rattle.bitrows.proofs.RowsLaws.{place_same, place_row}
use Rattle.layers.specs.declared.SearchGrid.{SearchGrid}
use Rattle.layers.specs.Table.{in_set, Tidy, word_of}

module _ (g : SearchGrid) (sets : List ℕ) where
  pub set_cell : (t c : ℕ) → in_set g sets t c ≡ true → c < g.cells
  unfolding in_set
  set_cell t c e = ltb-true c g.cells (and_fst (ltb c g.cells) (has sets (word_of t (c / g.width)) (c % g.width)) e)

  pub set_has : (t c : ℕ) → in_set g sets t c ≡ true → has sets (word_of t (c / g.width)) (c % g.width) ≡ true
  unfolding in_set
  set_has t c e = and_snd (ltb c g.cells) (has sets (word_of t (c / g.width)) (c % g.width)) e

  pub set_holds : (t c : ℕ) → c < g.cells → has sets (word_of t (c / g.width)) (c % g.width) ≡ true → in_set g sets t c ≡ true
  unfolding in_set
  set_holds t c h e = and_both (lt-ltb c g.cells h) e

  -- Within the grid a cell is in the set exactly if its digit is 1.
  pub set_digit : (t c : ℕ) → c < g.cells → in_set g sets t c ≡ has sets (word_of t (c / g.width)) (c % g.width)
  unfolding in_set
  set_digit t c h = rw (lt-ltb c g.cells h)

  -- By row and column.
  pub set_at : (t row column : ℕ) → column < g.width → row * g.width + column < g.cells → has sets (word_of t row) column ≡ true →
      in_set g sets t (row * g.width + column) ≡ true
  set_at t row column h l e =
      let p : ((row * g.width + column) / g.width ≡ row) × ((row * g.width + column) % g.width ≡ column) =
      place_same g.width (row * g.width + column) row column h refl in
      set_holds t (row * g.width + column) l (rw (p.0, p.1) e)

-- Two tables with the same rows at a beat have the same cells then.
pub set_same : (g : SearchGrid) (sets after : List ℕ) (t c : ℕ) → 1 ≤ g.width → g.cells ≤ 32 * g.width →
    ((row : ℕ) → row < 32 → get_or after (word_of t row) 0 ≡ get_or sets (word_of t row) 0) → in_set g after t c ≡ in_set g sets t c
unfolding in_set has
set_same g sets after t c thin low same = ⊎_elim inside outside (lt_or_le c g.cells)
  where
    inside : c < g.cells → (ltb c g.cells && digit (get_or after (word_of t (c / g.width)) 0) (c % g.width)) ≡
        (ltb c g.cells && digit (get_or sets (word_of t (c / g.width)) 0) (c % g.width))
    inside h = rw (same (c / g.width) (place_row g.width c thin (omega arith)))

    outside : g.cells ≤ c → (ltb c g.cells && digit (get_or after (word_of t (c / g.width)) 0) (c % g.width)) ≡
        (ltb c g.cells && digit (get_or sets (word_of t (c / g.width)) 0) (c % g.width))
    outside h = rw (le-ltb c g.cells h)

-- A table of empty sets is tidy.
pub empty_tidy : (g : SearchGrid) (sets : List ℕ) → sets ≡ replicate 2049 0 → Tidy g sets
empty_tidy g sets e =
    rw e
    (record {
      long = length-replicate {A = ℕ} 2049 0;
      thin = λ i column h. true_false_absurd h (has_zeros 2049 i column);
      rows = λ t row column l h. true_false_absurd h (has_zeros 2049 (word_of t row) column);
      empty = zeros_at 2049 2048;
    })
