-- The longest sheet: line 1, eight carriers of four docks, 1023 walls.
use Prim.Native.Nat.{ℕ, zero, suc, ◌+◌, ◌*◌, ◌≤◌}
use native.Mathlib.Omega.{arith}
use mathlib.Core.Path.{◌≡◌}
use mathlib.Core.List.{List}
use Rattle.laws.specs.Verdict.{passed, All}
use Rattle.floor.specs.declared.Floor.{Floor}
use Rattle.floor.specs.Checks.{count_of, check_of}
use Rattle.floor.proofs.LimitsLaws.{check_tells}
use Rattle.floor.proofs.Theorems.{theorems as floor-theorems}
use Rattle.fields.specs.Form.{counted_length}
use Rattle.sheet.specs.Text.{carrier_at, wall_at, sheet_length}

-- Lines of at most four docks.
columns_low : (f : Floor) (n : ℕ) → All (λ (i : ℕ). count_of f i ≤ 4) n → carrier_at f n ≤ 31 + 56 * n
unfolding carrier_at counted_length
columns_low f zero a = omega arith
columns_low f (suc n) a = omega (arith, columns_low f n (λ i l. a i (omega arith)), a n (omega arith))

pub sheet_low : (f : Floor) (ws : List ℕ) → check_of f ws ≡ passed → sheet_length f ≤ 11732
unfolding sheet_length wall_at
sheet_low f ws ok =
    let few : All (λ (i : ℕ). count_of f i ≤ 4) f.carriers =
    λ i l. (((floor-theorems.passes_exactly f ws).0 ok).carriers_in_grid i l).0.1 in
    let b = (check_tells f ws ok).bounds in
    omega (arith, columns_low f f.carriers few, b.walls.1, b.carriers.1)
