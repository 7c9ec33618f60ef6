-- The rows of each entry, and what each leaves in lent memory (demand 1).
use Prim.Native.Nat.{ℕ, ◌-◌}
use mathlib.Core.List.{List}
use mathlib.Core.Path.{◌≡◌, sym, ◌∙◌}
use Rattle.laws.specs.Verdict.{refused, ◌then◌, demand}
use Rattle.laws.proofs.EachLaws.{each_refused, first_refuses}
use Rattle.laws.proofs.Tests.{not_true_is_false, false_fails}
use Rattle.floor.specs.declared.Floor.{Floor}
use Rattle.floor.specs.Checks.{check_of, limits_of, long_enough, within}
use Rattle.floor.specs.Accepted.{Within}
use Rattle.floor.specs.Refused.{RefusedWith as RefusedFloor}
use Rattle.floor.proofs.LimitsLaws.{field_means, limits_each, within_means}
use Rattle.floor.proofs.Theorems.{theorems as floor-theorems}
use Rattle.demands.specs.Rows.{Row, Short, ◌or_else◌, Refuses}
use Rattle.demands.specs.Demand1.{OutsideLimit, outside}
use Rattle.demands.proofs.RowLaws.{then_rows, demand_row, short_row}

-- The floor's rows, and then 9.
pub floor_rows : (f : Floor) (ws : List ℕ) → Refuses (check_of f ws) (RefusedFloor f ws)
floor_rows f ws = floor-theorems.refuses_exactly f ws

pub lent_rows : (f : Floor) (ws : List ℕ) (needed lent : ℕ)
    → Refuses (check_of f ws then long_enough needed lent) (RefusedFloor f ws or_else Short lent needed)
lent_rows f ws needed lent = then_rows (check_of f ws) (long_enough needed lent) (floor_rows f ws) (λ e. short_row needed lent)

-- A number outside its limits is one row.
pub outside_row : (low high x k p : ℕ) → Refuses (demand (within low high x) k p) (Row k p (Within low high x → ⊥))
outside_row low high x k p =
    demand_row (within low high x) k p (
      λ e w. false_fails e ((within_means low high x).1 w),
      λ h. not_true_is_false (within low high x) (λ t. h ((within_means low high x).0 t)),
    )

-- The six fields of line 1.
pub limit_rows : (f : Floor) → Refuses (limits_of f) (OutsideLimit f)
limit_rows f k p = (
  λ e. each_refused 2 1 _ _ (field_means f) (OutsideLimit f) 6 k p (sym (limits_each f) ∙ e) (λ i. outside),
  back k p,
)
  where
    back : (k p : ℕ) → OutsideLimit f k p → limits_of f ≡ refused k p
    back k p (outside h) = limits_each f ∙ first_refuses 2 1 _ _ (field_means f) 6 _ h
