-- The place of a cell as the code finds it: its row, and what is left of its number as the column.
use Prim.Native.Nat.{ℕ, ◌+◌, ◌*◌, ◌-◌, ◌/◌, ◌%◌, ◌<◌}
use native.Mathlib.Omega.{arith}
use native.Mathlib.Nat.{mod-lt}
use mathlib.Core.Bool.{Bool}
use mathlib.Core.List.{List}
use mathlib.Core.Path.{◌≡◌, sym, ◌∙◌}
use Rattle.bitrows.specs.Rows.{has}
use Rattle.bitrows.proofs.RowsLaws.{place_row}
use Rattle.layers.specs.declared.SearchGrid.{SearchGrid}
use Rattle.layers.specs.declared.Place.{Place}
use Rattle.layers.specs.Table.{Grid, PlaceOf, in_set, word_of}
use Rattle.layers.proofs.SetLaws.{set_digit}

-- A row with what it leaves of the cell's number is the cell's place.
pub place_made : (g : SearchGrid) (c : ℕ) (p : Place) → Grid g → c < g.cells → p.row ≡ c / g.width →
    p.row * g.width + c % g.width ≡ c →
    p.column ≡ c - p.row * g.width → PlaceOf g c p
place_made g c p grid inside row whole left =
    record {
      row = row;
      column = column;
      low = rw row (place_row g.width c grid.thin (omega (arith, grid.low)));
      thin = rw column thin;
      narrow = rw column (omega (arith, thin, grid.narrow));
    }
  where
    column : p.column ≡ c % g.width
    column = omega arith

    thin : c % g.width < g.width
    thin = mod-lt c grid.thin

-- Whether a cell is in a set, read at its place.
pub member_made : (g : SearchGrid) (sets : List ℕ) (t c : ℕ) (p : Place) (x : Bool) → c < g.cells → PlaceOf g c p →
    x ≡ has sets (word_of t p.row) p.column → x ≡ in_set g sets t c
member_made g sets t c p x inside at e = e ∙ rw (at.row, at.column) (sym (set_digit g sets t c inside))
