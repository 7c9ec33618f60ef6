-- The lines after line 1, checked from column to column: where the walls' lines begin, and what a chain of such checks tells.
use Prim.Native.Nat.{ℕ, ◌≤◌}
use native.Mathlib.Omega.{arith}
use mathlib.Core.Path.{◌≡◌}
use mathlib.Core.List.{List}
use Rattle.std.specs.Prelude.{Ok}
use Rattle.floor.specs.declared.Floor.{Floor}
use Rattle.laws.specs.Verdict.{Outcome, ◌gives◌}
use Rattle.fields.specs.Reached.{column_told}
use Rattle.fields.specs.Form.{line_form, counted_form, past_counted, past_pair, column_past, lines_form, end_form}
use Rattle.fields.proofs.ReachedLaws.{reaches}
use Rattle.fields.proofs.ColumnLaws.{counted_columns}
use Rattle.sheet.specs.Form.{carrier_column, wall_column}

module _ (text : List ℕ) (f : Floor) (column : ℕ)
    (first : column_told (Ok column) ≡ (lines_form (counted_form text) (past_counted text) 31 f.carriers
    gives column_past (past_counted text) 31 f.carriers)) where
  -- The walls' lines begin where the carriers' end.
  walls_begin : column ≡ carrier_column text f.carriers
  unfolding carrier_column
  walls_begin = (reaches _ _ _ first).1

  pub walls_low : f.carriers ≤ 8 → column ≤ 50000
  unfolding carrier_column
  walls_low few =
      let r = reaches _ _ _ first in
      omega (arith, few, r.1, counted_columns text 31 f.carriers r.0)

  pub walls_lines : (o : Outcome ℕ)
      → o ≡ (lines_form (λ (p : ℕ). line_form text p 2) past_pair column f.walls gives column_past past_pair column f.walls)
      → o ≡ (lines_form (λ (p : ℕ). line_form text p 2) past_pair (carrier_column text f.carriers) f.walls
      gives wall_column text f.carriers f.walls)
  unfolding wall_column
  walls_lines o e = rw walls_begin at e

  -- Nothing follows where the walls' lines end.
  pub end_behind : (last : ℕ) (o : Outcome ℕ)
      → column_told (Ok last) ≡ (lines_form (λ (p : ℕ). line_form text p 2) past_pair column f.walls gives column_past past_pair column f.walls)
      → o ≡ (end_form text last gives last)
      → o ≡ (end_form text (wall_column text f.carriers f.walls) gives wall_column text f.carriers f.walls)
  end_behind last o e g = rw (reaches _ _ _ (walls_lines _ e)).1 at g
