-- The free table of a search: a table of the cells that can be stood on at each beat, and how the code makes one. A view's cell is taken
-- out at its beat and at the beats beside it, within 0 to the horizon.
use Rattle.std.specs.Prelude.{ℕ, ◌+◌, ◌*◌, ◌/◌, ◌%◌, ◌≤◌, ◌<◌, Bool, true, ◌&&◌, List, ◌↔◌, ◌≡◌, ltb, length, get_or}
use Rattle.route.specs.Moves.{vacant, every}
use Rattle.bitrows.specs.Rows.{has}
use Rattle.layers.specs.declared.SearchGrid.{SearchGrid}
use Rattle.records.specs.Records.{records, view_cell, Away}
use Rattle.layers.specs.Table.{in_set, Tidy, row_of}

-- Cell c can be stood on at beat t: it is in the grid, free, and none of the first k views is there then or at a beat beside t.
unfoldable pub stands_at : SearchGrid → ℕ → List ℕ → List ℕ → ℕ → ℕ → Bool
stands_at g k free m t c = ltb c g.cells && has free (c / g.width) (c % g.width) && every (vacant g.horizon t c) (records m k)

-- The table has at each beat the cells that can be stood on.
pub record IsFreeTable (g : SearchGrid) (k : ℕ) (free m table : List ℕ) : Type 0 where
  pub tidy : Tidy g table
  pub agrees : (t c : ℕ) → t ≤ g.horizon → in_set g table t c ≡ stands_at g k free m t c

-- Whatever was free, the table after is the free table that one view more leaves of that of the first j views.
abbrev pub OneMore : SearchGrid → ℕ → List ℕ → List ℕ → List ℕ → Type 0
OneMore g j m table after = (free : List ℕ) → IsFreeTable g j free m table → IsFreeTable g (j + 1) free m after

-- The table has the free rows at the first n beats, and is empty elsewhere.
pub record FreeBeats (free : List ℕ) (n : ℕ) (table : List ℕ) : Type 0 where
  pub long : length table ≡ 2049
  pub shown : (t j : ℕ) → t < n → j < 32 → get_or table (t * 32 + j) 0 ≡ get_or free (row_of j) 0
  pub hidden : (i : ℕ) → n * 32 ≤ i → get_or table i 0 ≡ 0

-- The table after is the one before without cell x at the beats from a to before b.
pub record TakenCell (g : SearchGrid) (a b x : ℕ) (table after : List ℕ) : Type 0 where
  pub tidy : Tidy g after
  pub taken : (t c : ℕ) → (in_set g after t c ≡ true) ↔ ((in_set g table t c ≡ true) × (a ≤ t → t < b → c ≡ x → ⊥))

-- View j keeps its cell from beat a through beat h.
pub record Parked (m : List ℕ) (j a h : ℕ) : Type 0 where
  pub upto : a ≤ h
  pub keeps : (t : ℕ) → a ≤ t → t ≤ h → view_cell m j t ≡ view_cell m j h

-- The table after is the one before without the cells of view j at its first n beats, each at its beat and the beats beside it.
pub record TakenBeats (g : SearchGrid) (m : List ℕ) (j n : ℕ) (table after : List ℕ) : Type 0 where
  pub tidy : Tidy g after
  pub taken : (t c : ℕ) → t ≤ g.horizon → (in_set g after t c ≡ true) ↔ ((in_set g table t c ≡ true) × Away m j n t c)
