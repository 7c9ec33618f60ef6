-- Changing the set of one beat of a table: to no cell, by one more, to one cell alone, or by a step from the set of another beat; and
-- steps beat after beat.
use Rattle.std.specs.Prelude.{ℕ, ◌+◌, ◌-◌, ◌≤◌, ◌<◌, Bool, true, false, List, ◌⊎◌, ◌≡◌}
use Rattle.route.specs.Moves.{near}
use Rattle.layers.specs.declared.SearchGrid.{SearchGrid}
use Rattle.layers.specs.Table.{in_set, Tidy}

-- The sets after are tidy, and those before but for the set of beat b.
pub record ChangedAt (g : SearchGrid) (sets : List ℕ) (b : ℕ) (after : List ℕ) : Type 0 where
  pub tidy : Tidy g after
  pub other : (t c : ℕ) → (t ≡ b → ⊥) → in_set g after t c ≡ in_set g sets t c

-- The set of beat t has no cell.
abbrev pub Empty : SearchGrid → List ℕ → ℕ → Type 0
Empty g sets t = (d : ℕ) → in_set g sets t d ≡ true → ⊥

-- The sets after have at beat t the cells that those before have then, and cell c.
pub record Joined (g : SearchGrid) (sets : List ℕ) (t c : ℕ) (after : List ℕ) : Type 0 where
  pub says : (d : ℕ) → in_set g after t d ≡ true → (in_set g sets t d ≡ true) ⊎ (d ≡ c)
  pub kept : (d : ℕ) → in_set g sets t d ≡ true → in_set g after t d ≡ true
  pub holds : in_set g after t c ≡ true

-- The set of beat t has cell c alone.
pub record Alone (g : SearchGrid) (sets : List ℕ) (t c : ℕ) : Type 0 where
  pub says : (d : ℕ) → in_set g sets t d ≡ true → d ≡ c
  pub holds : in_set g sets t c ≡ true

-- Some cell of the set of beat t is near cell d.
abbrev pub Beside : SearchGrid → List ℕ → ℕ → ℕ → Type 0
Beside g sets t d = (c : ℕ) × (in_set g sets t c ≡ true) × (near g.width c d ≡ true)

-- The set of beat b has those cells of the free table then that are near a cell of the set of beat a.
pub record Spread (g : SearchGrid) (table sets : List ℕ) (a b : ℕ) : Type 0 where
  pub says : (d : ℕ) → in_set g sets b d ≡ true → (in_set g table b d ≡ true) × Beside g sets a d
  pub holds : (d : ℕ) → in_set g table b d ≡ true → Beside g sets a d → in_set g sets b d ≡ true

-- The beat n beats after beat t, or before it.
unfoldable pub beat_after : Bool → ℕ → ℕ → ℕ
beat_after back t n = elim back [ true ↦ t - n | false ↦ t + n ]

-- There are n beats after beat t, or before it.
unfoldable pub Within : Bool → ℕ → ℕ → Type 0
Within true t n = (t < 64) × (n ≤ t)
Within false t n = t + n < 64

-- The sets after are those before with n changed after beat t, or before it, each to what the one before it spreads to in the free table;
-- the set of beat t and those on its other side are as they were.
pub record Swept (g : SearchGrid) (table sets : List ℕ) (t : ℕ) (back : Bool) (n : ℕ) (after : List ℕ) : Type 0 where
  pub tidy : Tidy g after
  pub spreads : (i : ℕ) → i < n → Spread g table after (beat_after back t i) (beat_after back t (i + 1))
  pub kept : (u c : ℕ) → ((i : ℕ) → i < n → u ≡ beat_after back t (i + 1) → ⊥) → in_set g after u c ≡ in_set g sets u c
