-- The limits as statements and as numbers.
use Prim.Native.Nat.{ℕ, zero, suc, ◌≤◌}
use lib.Dec.{lit<, leb}
use mathlib.Core.Path.{◌≡◌}
use mathlib.Core.Bool.{Bool, true, and-eq-true_iff}
use mathlib.Core.Logic.{◌↔◌}
use mathlib.Core.List.{List}
use borrow.Author.Tests.{leb-true, le-leb}
use Rattle.floor.specs.declared.Floor.{Floor}
use Rattle.laws.specs.Verdict.{passed, ◌then◌, in_turn, demand_each}
use Rattle.floor.specs.Checks.{within, limits_of, lent_of, long_enough, places_of, check_of}
use Rattle.floor.specs.Accepted.{Within, FieldWithin, Limited, Lent}
use Rattle.laws.proofs.VerdictLaws.{then_assoc, then_both, demand_holds}
use Rattle.laws.proofs.EachLaws.{Decides, each_means}

-- The test of a limit means the limit.
pub within_means : (low high x : ℕ) → (within low high x ≡ true) ↔ Within low high x
unfolding within
within_means low high x = (
  λ h. let b = (and-eq-true_iff (leb low x) (leb x high)).0 h in (leb-true low x b.0, leb-true x high b.1),
  λ h. rw (le-leb low x h.0, le-leb x high h.1),
)

-- The tests of the six fields, as a check over items.
pub field_within : Floor → ℕ → Bool
field_within f zero = within 1 32 f.width
field_within f (suc zero) = within 1 32 f.height
field_within f (suc (suc zero)) = within 1 63 f.horizon
field_within f (suc (suc (suc zero))) = within 1 4 f.depth
field_within f (suc (suc (suc (suc zero)))) = within 1 8 f.carriers
field_within f (suc (suc (suc (suc (suc i))))) = within 0 1023 f.walls

pub field_means : (f : Floor) → Decides (field_within f) (FieldWithin f)
unfolding field_within FieldWithin
field_means f zero = within_means _ _ _
field_means f (suc zero) = within_means _ _ _
field_means f (suc (suc zero)) = within_means _ _ _
field_means f (suc (suc (suc zero))) = within_means _ _ _
field_means f (suc (suc (suc (suc zero)))) = within_means _ _ _
field_means f (suc (suc (suc (suc (suc i))))) = within_means _ _ _

-- Check 2 goes over the six fields in order.
pub limits_each : (f : Floor) → limits_of f ≡ demand_each 2 1 (field_within f) 6
unfolding limits_of demand_each in_turn field_within ◌then◌
limits_each f = simp then_assoc

-- Check 2 passes exactly if all six values are within their limits.
pub limits_mean : (f : Floor) → (limits_of f ≡ passed) ↔ Limited f
limits_mean f = rw (limits_each f) (each_means 2 1 _ _ (field_means f) 6)

-- The limits as bounds with names.
pub record Bounds (f : Floor) : Type 0 where
  pub width : Within 1 32 f.width
  pub height : Within 1 32 f.height
  pub horizon : Within 1 63 f.horizon
  pub depth : Within 1 4 f.depth
  pub carriers : Within 1 8 f.carriers
  pub walls : Within 0 1023 f.walls

pub limited_bounds : (f : Floor) → Limited f → Bounds f
unfolding FieldWithin
limited_bounds f l =
    record {
      width = l 0 (lit< tt);
      height = l 1 (lit< tt);
      horizon = l 2 (lit< tt);
      depth = l 3 (lit< tt);
      carriers = l 4 (lit< tt);
      walls = l 5 (lit< tt);
    }

-- Where check 2 passes, all six values are within their limits.
pub limits_passed : (f : Floor) → limits_of f ≡ passed → Bounds f
limits_passed f h = limited_bounds f ((limits_mean f).0 h)

-- Where check 9 passes, the memory that is needed is lent.
pub length_passed : (needed lent : ℕ) → long_enough needed lent ≡ passed → needed ≤ lent
unfolding long_enough
length_passed needed lent h = leb-true _ _ (demand_holds _ 9 0 h)

pub lent_passed : (f : Floor) (ws : List ℕ) → lent_of f ws ≡ passed → Lent f ws
unfolding lent_of
lent_passed f ws h = length_passed _ _ h

-- Where all checks pass, each part of them does.
pub record CheckTells (f : Floor) (ws : List ℕ) : Type 0 where
  pub limited : limits_of f ≡ passed
  pub bounds : Bounds f
  pub lent : Lent f ws
  pub places : places_of f ws ≡ passed

pub check_tells : (f : Floor) (ws : List ℕ) → check_of f ws ≡ passed → CheckTells f ws
unfolding check_of
check_tells f ws h =
    let a = then_both _ _ h in
    let b = then_both _ _ a.1 in
    record { limited = a.0; bounds = limits_passed f a.0; lent = lent_passed f ws b.0; places = b.1 }
