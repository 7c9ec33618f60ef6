-- The docks of a search: the cells at which a route may end, each with the beat from which it can be held.
use Rattle.std.specs.Prelude.{ℕ, zero, suc, ◌+◌, ◌≤◌, ◌<◌, Bool, true, false, ◌&&◌, ◌||◌, List, ◌≡◌, leb, eqb, get_or, replicate}
use Rattle.bitrows.specs.Rows.{filled}
use Rattle.layers.specs.declared.SearchGrid.{SearchGrid}
use Rattle.layers.specs.Table.{in_set}
use Rattle.passes.specs.declared.docks.Docks.{Docks}

-- The first n cells, at most 4, are cells of the grid.
pub record DocksIn (g : SearchGrid) (n : ℕ) (cells : List ℕ) : Type 0 where
  pub few : n ≤ 4
  pub inside : (d : ℕ) → d < n → get_or cells d 0 < g.cells

-- The least number from which all below n pass a test; n where the last fails.
unfoldable pub held_from : (ℕ → Bool) → ℕ → ℕ
held_from φ zero = 0
held_from φ (suc n) = elim (φ n) [ true ↦ held_from φ n | false ↦ suc n ]

-- The least beat from which cell c is in the free table through the horizon; one past the horizon where it is not there then.
unfoldable pub hold_of : SearchGrid → List ℕ → ℕ → ℕ
hold_of g table c = held_from (λ t. in_set g table t c) (g.horizon + 1)

-- The docks with the beats from which they can be held in a free table.
unfoldable pub held_docks : SearchGrid → List ℕ → ℕ → List ℕ → Docks
held_docks g table count cells =
    record { count = count; cells = cells; holds = filled (replicate 4 0) (λ d. hold_of g table (get_or cells d 0)) count }

-- Some number below n passes a test.
unfoldable pub any_of : (ℕ → Bool) → ℕ → Bool
any_of φ zero = false
any_of φ (suc n) = any_of φ n || φ n

-- Dock d can be held from beat t on.
unfoldable pub held_at : Docks → ℕ → ℕ → Bool
held_at ds t d = leb (get_or ds.holds d 0) t

-- From the beat on from which a dock can be held it is in the free table, through the horizon.
abbrev pub Holdable : SearchGrid → List ℕ → Docks → Type 0
Holdable g table ds =
    (t d : ℕ) → d < ds.count → held_at ds t d ≡ true → t ≤ g.horizon → in_set g table t (get_or ds.cells d 0) ≡ true

-- Dock d can be held from beat t on and is in the set of beat t.
unfoldable pub arrivable_at : SearchGrid → List ℕ → Docks → ℕ → ℕ → Bool
arrivable_at g sets ds t d = held_at ds t d && in_set g sets t (get_or ds.cells d 0)

-- Some dock that can be held from beat t on is in the set of beat t.
unfoldable pub arrivable : SearchGrid → List ℕ → Docks → ℕ → Bool
arrivable g sets ds t = any_of (arrivable_at g sets ds t) ds.count

-- Cell c is dock d, which can be held from beat t on.
unfoldable pub endable_at : Docks → ℕ → ℕ → ℕ → Bool
endable_at ds t c d = held_at ds t d && eqb c (get_or ds.cells d 0)

-- The set of beat t has those of the first n docks that can be held from then on.
abbrev pub EndsAt : SearchGrid → List ℕ → Docks → ℕ → ℕ → Type 0
EndsAt g sets ds t n = (c : ℕ) → in_set g sets t c ≡ any_of (endable_at ds t c) n

-- Where the set of beat t has so the first n docks, the one after has so one more.
abbrev pub OneEnd : SearchGrid → List ℕ → Docks → ℕ → ℕ → List ℕ → Type 0
OneEnd g sets ds t n after = EndsAt g sets ds t n → EndsAt g after ds t (n + 1)
