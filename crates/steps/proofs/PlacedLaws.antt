-- What a checked place tells: the bounds of its floor, and that every carrier can be searched for.
use Prim.Native.Nat.{ℕ, ◌+◌, ◌*◌, ◌≤◌, ◌<◌}
use native.Mathlib.Omega.{arith}
use mathlib.Core.List.{List}
use mathlib.Core.Path.{◌≡◌}
use lib.ListN.{length}
use Rattle.floor.specs.declared.Floor.{Floor}
use Rattle.floor.proofs.LimitsLaws.{Bounds, limited_bounds}
use Rattle.search.specs.Rows.{FreeRows, Searchable}
use Rattle.search.proofs.RequestLaws.{accepted_searchable}
use Rattle.reference.specs.Step.{Step, plan, deliver}
use Rattle.encoding.specs.Places.{state_size}
use Rattle.steps.specs.Inner.{Placed, Workable, RowsFor}

-- The bounds of an accepted floor.
pub placed_bounds : {f : Floor} {ws : List ℕ} {lent : ℕ} → Placed f ws lent → Bounds f
placed_bounds {f} a = limited_bounds f a.accepted.limited

-- There are eight carriers at most, and room for their state.
pub placed_sized : {f : Floor} {ws : List ℕ} {lent : ℕ} → Placed f ws lent → (f.carriers ≤ 8) × (state_size f.carriers ≤ lent)
placed_sized a = ((placed_bounds a).carriers.1, a.enough)

-- What the free rows require.
pub placed_grid : {f : Floor} {ws : List ℕ} {lent : ℕ} → Placed f ws lent →
    ((1 ≤ f.width) × (f.width ≤ 32) × (f.height ≤ 32)) × (f.walls ≤ length ws)
placed_grid a = let b = placed_bounds a in ((b.width.0, b.width.1, b.height.1), a.accepted.lent)

-- Every carrier of an accepted floor can be searched for with its free rows.
pub placed_searchable : {f : Floor} {ws rows : List ℕ} (m : List ℕ) → Workable f ws rows m → (i : ℕ) (views : List ℕ) → i < f.carriers →
    65 * i ≤ length views → Searchable f rows (i + 1) views
placed_searchable {f} {ws} {rows} m w i views l s =
    accepted_searchable f ws (i + 1) views rows w.placed.accepted (omega arith, omega arith) (omega arith) w.free

-- The free cells of a floor serve every step.
pub rows_serve : {f : Floor} {ws rows : List ℕ} (x : Step) → FreeRows f ws rows → RowsFor f ws rows x
unfolding RowsFor
rows_serve (plan i) r = r
rows_serve (deliver j i) r = tt

-- What works with one memory works with another of its length.
pub workable_same : {f : Floor} {ws rows m m' : List ℕ} → length m' ≡ length m → Workable f ws rows m → Workable f ws rows m'
workable_same e w = record { placed = rw e w.placed; free = w.free }
