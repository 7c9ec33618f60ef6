-- The claims about the floor's checks; `proofs/Theorems.antt` inhabits the record.
use Rattle.std.specs.Prelude.{ℕ, ◌+◌, ◌≡◌, List, [], ◌↔◌, true, get_or}
use Rattle.floor.specs.declared.Floor.{Floor}
use Rattle.laws.specs.Verdict.{passed, refused}
use Rattle.floor.specs.Checks.{among, check_of}
use Rattle.floor.specs.Fresh.{fresh_floor}
use Rattle.floor.specs.Accepted.{Accepted, Lent, SameFloor, SameDocks}
use Rattle.floor.specs.OneDock.{OneDockFloor, earlier_check, with_one_dock, GoalsDistinct}
use Rattle.floor.specs.Refused.{RefusedWith}

pub record Claims : Type 0 where
  -- The checks pass exactly the accepted floors.
  pub passes_exactly : (f : Floor) (ws : List ℕ) → (check_of f ws ≡ passed) ↔ Accepted f ws
  -- Each refusal comes exactly under the condition of its row, with its first place.
  pub refuses_exactly : (f : Floor) (ws : List ℕ) (k p : ℕ) → (check_of f ws ≡ refused k p) ↔ RefusedWith f ws k p
  -- The fresh floor is an accepted one.
  pub fresh_accepted : check_of fresh_floor [] ≡ passed
  -- Places past the counts are no part of the floor: records that are the same floor get the same verdict.
  pub same_verdict : (f : Floor) (ws : List ℕ) (f' : Floor) (ws' : List ℕ) → SameFloor f ws f' ws' → Lent f ws → Lent f' ws'
      → check_of f ws ≡ check_of f' ws'
  -- The order of a carrier's docks is nothing: records that differ in it get the same verdict.
  pub order_nothing : (f f' : Floor) (ws : List ℕ) → SameDocks f f' → check_of f ws ≡ check_of f' ws
  -- With one dock a carrier, a floor that document 01 accepts is accepted.
  pub earlier_accepted : (old : OneDockFloor) (ws : List ℕ) → earlier_check old ws ≡ passed → check_of (with_one_dock old) ws ≡ passed
  -- Exactly the floors that are accepted and have no goal in common are.
  pub earlier_exactly : (old : OneDockFloor) (ws : List ℕ)
      → (earlier_check old ws ≡ passed) ↔ ((check_of (with_one_dock old) ws ≡ passed) × GoalsDistinct old)
  -- It gets document 01's refusals and no other, except 6.
  pub earlier_refused : (old : OneDockFloor) (ws : List ℕ) (k p : ℕ) → (k ≡ 6 → ⊥)
      → (earlier_check old ws ≡ refused k p) ↔ (check_of (with_one_dock old) ws ≡ refused k p)
  -- It gets document 01's 6 where that is for a start.
  pub earlier_start : (old : OneDockFloor) (ws : List ℕ) (i : ℕ) → earlier_check old ws ≡ refused 6 (1 + i)
      → among old.starts i (get_or old.starts i 0) ≡ true → check_of (with_one_dock old) ws ≡ refused 6 (1 + i)
