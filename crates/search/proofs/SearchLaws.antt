-- From the search in a free table to the best answer of a checked floor.
use Prim.Native.Nat.{ℕ, ◌*◌, ◌-◌, ◌/◌, ◌%◌, ◌≤◌, ◌<◌}
use mathlib.Core.List.{List}
use Rattle.std.specs.Prelude.{Option}
use mathlib.Core.Path.{◌≡◌, ap}
use lib.ListN.{length}
use Rattle.floor.specs.declared.Floor.{Floor}
use Rattle.floor.specs.Checks.{start_of, count_of, docks_of, dock_of, is_dock, among}
use Rattle.route.specs.Route.{View}
use Rattle.route.specs.Moves.{standable}
use Rattle.route.specs.Search.{best}
use Rattle.bitrows.specs.Rows.{has, Clean}
use Rattle.layers.specs.declared.SearchGrid.{SearchGrid}
use Rattle.layers.specs.Table.{search_grid_of, Fits, Tidy}
use Rattle.layers.specs.FreeTable.{stands_at, IsFreeTable}
use Rattle.layers.proofs.GridLaws.{scene_grid}
use Rattle.passes.specs.Docks.{DocksIn}
use Rattle.records.specs.Records.{records, views_of}
use Rattle.records.specs.Seen.{seen}
use Rattle.search.specs.Answers.{answer_of}
use Rattle.search.specs.Seek.{BestIn}
use Rattle.search.specs.Task.{task_of_rows}
use Rattle.search.specs.Rows.{Searchable}

module _ {f : Floor} {rows : List ℕ} {i : ℕ} {m : List ℕ} (s : Searchable f rows i m) {g : SearchGrid} (q : g ≡ search_grid_of f) where
  -- The scene of a checked floor fits the tables.
  pub scene_fits : Fits g (i - 1) m
  unfolding search_grid_of
  scene_fits =
      rw q (record { grid = scene_grid f s.width.0 s.width.1 s.height; short = s.horizon; lent = s.lent })

  pub scene_clean : Clean g.width g.cells rows
  unfolding search_grid_of
  scene_clean = rw q s.clean

  -- Start and docks are cells of it.
  pub scene_start : start_of f (i - 1) < g.cells
  unfolding search_grid_of
  scene_start = rw q s.start

  pub scene_docks : {cells : List ℕ} → cells ≡ docks_of f (i - 1) → DocksIn g (count_of f (i - 1)) cells
  unfolding search_grid_of dock_of
  scene_docks at = rw (q, at) (record { few = s.few; inside = s.docks })

-- A free table of the scene is one of the floor's, and a tidy table too.
pub table_scene : (f : Floor) {g : SearchGrid} {k : ℕ} {rows m table : List ℕ} → g ≡ search_grid_of f → IsFreeTable g k rows m table →
    IsFreeTable (search_grid_of f) k rows m table
table_scene f q r = rw q at r

pub tidy_scene : (f : Floor) {g : SearchGrid} {sets : List ℕ} → g ≡ search_grid_of f → Tidy g sets → Tidy (search_grid_of f) sets
tidy_scene f q t = rw q at t

-- What is best in such a free table is the best answer against the views.
pub best_views : (f : Floor) (rows : List ℕ) (i : ℕ) (m table : List ℕ) (g : SearchGrid) (cells : List ℕ) (x : Option (List ℕ)) → g ≡ search_grid_of f →
    cells ≡ docks_of f (i - 1) → IsFreeTable (search_grid_of f) (i - 1) rows m table →
    BestIn g table (start_of f (i - 1)) (among cells (count_of f (i - 1))) x → answer_of x ≡ best (task_of_rows f rows i) (views_of m i)
unfolding task_of_rows views_of search_grid_of stands_at standable is_dock
best_views f rows i m table g cells x q at is-table h =
    (rw (q, at) at h) (λ c. has rows (c / f.width) (c % f.width)) (records m (i - 1)) is-table.agrees

-- A carrier that can be searched for with some views can be with others.
pub other_views : {f : Floor} {rows : List ℕ} {i : ℕ} {m m' : List ℕ} → Searchable f rows i m → 65 * (i - 1) ≤ length m' →
    Searchable f rows i m'
other_views s l =
    record {
      width = s.width;
      height = s.height;
      horizon = s.horizon;
      listed = s.listed;
      start = s.start;
      few = s.few;
      docks = s.docks;
      lent = l;
      long = s.long;
      clean = s.clean;
    }

-- The search against records as they are seen is the one against the views as they are seen.
pub shown_best : (f : Floor) (rows : List ℕ) (i : ℕ) (m m' : List ℕ) → records m' (i - 1) ≡ seen f (records m (i - 1)) →
    best (task_of_rows f rows i) (views_of m' i) ≡ best (task_of_rows f rows i) (seen f (views_of m i))
unfolding views_of
shown_best f rows i m m' e = ap (λ (vs : List View). best (task_of_rows f rows i) vs) e
