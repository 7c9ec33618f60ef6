-- The free table that the answers in memory leave depends on those answers alone.
use Prim.Native.Nat.{ℕ, ◌+◌, ◌*◌, ◌-◌, ◌≤◌, ◌<◌}
use native.Mathlib.Omega.{arith}
use mathlib.Core.Path.{◌≡◌, sym}
use mathlib.Core.List.{List}
use lib.ListN.{length, get_or}
use Rattle.floor.specs.declared.Floor.{Floor}
use Rattle.laws.specs.Memory.{put}
use Rattle.records.proofs.SeenLaws.{put_before}
use Rattle.search.specs.Rows.{Searchable}
use Rattle.layers.specs.declared.SearchGrid.{SearchGrid}
use Rattle.layers.specs.Table.{search_grid_of}
use Rattle.layers.specs.FreeTable.{IsFreeTable}
use Rattle.layers.proofs.GridLaws.{grid_low}
use Rattle.layers.proofs.FreeTableLaws.{free_table_same}

-- The free table for the carrier below them.
pub table_above : {g : SearchGrid} {i : ℕ} {free m xs : List ℕ} → IsFreeTable g i free m xs → IsFreeTable g (i + 1 - 1) free m xs
table_above {i = i} old =
    let e : i + 1 - 1 ≡ i = omega arith in
    rw e old

module _ (f : Floor) (free xs : List ℕ) (i k : ℕ) (ys : List ℕ) (able : Searchable f free k ys) where
  -- The same free table in a memory with the same answers in front.
  table_same : (m q : List ℕ) → ((j : ℕ) → j < 65 * i → get_or m j 0 ≡ get_or q j 0) → IsFreeTable (search_grid_of f) i free m xs →
      IsFreeTable (search_grid_of f) i free q xs
  unfolding search_grid_of
  table_same m q same old =
      free_table_same (search_grid_of f) free m q xs i able.width.1 (grid_low f.width f.height able.height)
      able.horizon same old

  -- The free table with one more answer behind them.
  pub table_stored : (m q zs : List ℕ) → 65 * i ≤ length m → q ≡ put m (65 * i) zs → IsFreeTable (search_grid_of f) i free m xs →
      IsFreeTable (search_grid_of f) i free q xs
  table_stored m q zs l e old = rw e (table_same m (put m (65 * i) zs) (λ j h. sym (put_before m zs (65 * i) j l h)) old)
