-- The rows that are made once a floor say which cells are free.
use Prim.Native.Nat.{ℕ, ◌*◌, ◌-◌, ◌/◌, ◌%◌, ◌^◌, ◌≤◌, ◌<◌}
use native.Mathlib.Omega.{arith}
use native.Mathlib.Nat.{mod-lt, mul_comm, div-lt_iff_lt-mul}
use mathlib.Core.Bool.{true, not}
use mathlib.Core.List.{List}
use mathlib.Core.Logic.{⊎_elim}
use mathlib.Core.Path.{◌≡◌, sym, ap, ◌∙◌}
use borrow.Author.Tests.{ltb-true, lt-ltb}
use lib.Arith.{digits_lt}
use lib.Dec.{ltb}
use lib.ListN.{length, replicate, length-replicate}
use Rattle.laws.proofs.Lists.{zeros_at}
use Rattle.floor.specs.declared.Floor.{Floor}
use Rattle.floor.specs.Checks.{among}
use Rattle.laws.proofs.Tests.{true_false_absurd, lt_or_le}
use Rattle.route.proofs.FreeLaws.{best_free}
use Rattle.bitrows.specs.Words.{digit}
use Rattle.bitrows.specs.Rows.{has}
use Rattle.bitrows.proofs.DigitLaws.{digit_ones, digit_zero}
use Rattle.bitrows.proofs.FillLaws.{length_filled, filled_in, filled_out}
use Rattle.search.specs.Task.{task_of, task_of_rows}
use Rattle.search.specs.Rows.{grid_rows, FreeRows}
use Rattle.search.proofs.GroundLaws.{WallsLeft, walls_out}

module _ (w h : ℕ) (high : h ≤ 32) where
  has_grid : (row column : ℕ) → row < h → has (grid_rows w h) row column ≡ ltb column w
  unfolding grid_rows has
  has_grid row column l =
      ap (λ (x : ℕ). digit x column) (filled_in (replicate 32 0) (λ i. 2 ^ w - 1) h row (omega (arith, length-replicate {A = ℕ} 32 0)) l)
      ∙ digit_ones w column

  grid_row : (row column : ℕ) → has (grid_rows w h) row column ≡ true → row < h
  unfolding grid_rows has
  grid_row row column e =
      ⊎_elim (λ (l : row < h). l)
      (λ (l : h ≤ row). true_false_absurd e
      (rw (filled_out (replicate 32 0) (λ i. 2 ^ w - 1) h row l, zeros_at 32 row) (digit_zero column)))
      (lt_or_le row h)

  pub length_grid : length (grid_rows w h) ≡ 32
  unfolding grid_rows
  length_grid = length_filled (replicate 32 0) (λ i. 2 ^ w - 1) h ∙ length-replicate {A = ℕ} 32 0

  grid_column : (row column : ℕ) → has (grid_rows w h) row column ≡ true → column < w
  grid_column row column e = ltb-true column w (sym (has_grid row column (grid_row row column e)) ∙ e)

  -- The grid's rows, with all walls.
  pub grid_walls : (ws : List ℕ) (n end : ℕ) (rows : List ℕ) → n ≤ end → 0 < w → rows ≡ grid_rows w h →
      WallsLeft w (w * h) ws n 0 end rows
  grid_walls ws n end rows all thin made =
      rw made
      (record {
        long = length_grid;
        clean = record {
          thin = grid_column;
          inside = λ row column l. rw (mul_comm w h) (digits_lt (grid_row row column l) (grid_column row column l));
        };
        kept = λ c u t. has_grid (c / w) (c % w) ((div-lt_iff_lt-mul thin).1 (rw (mul_comm h w) u)) ∙ lt-ltb (c % w) w (mod-lt c thin);
        left = λ j c l g t. omega arith;
      })

-- Without walls they are the floor's free cells.
pub free_rows_made : (f : Floor) (ws rows : List ℕ) (from end : ℕ) → end ≤ from →
    WallsLeft f.width (f.width * f.height) ws f.walls from end rows → FreeRows f ws rows
unfolding task_of_rows task_of
free_rows_made f ws rows from end l p =
    let free = walls_out f.width (f.width * f.height) ws f.walls from end rows l p in
    record {
      free = free;
      long = p.long;
      clean = p.clean;
      same = λ i vs. best_free (task_of f ws i) vs (λ c. has rows (c / f.width) (c % f.width)) (λ c. not (among ws f.walls c)) free;
    }
