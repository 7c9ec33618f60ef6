-- Laws of a carrier's docks: their four places in the record, their count, and what an accepted floor says of them.
use Prim.Native.Nat.{ℕ, zero, suc, ◌+◌, ◌*◌, ◌≤◌, ◌<◌}
use native.Mathlib.Omega.{arith}
use native.Mathlib.Nat.{add-zero}
use mathlib.Core.Path.{◌≡◌, refl, sym}
use mathlib.Core.List.{List, [], ◌∷◌}
use mathlib.Core.Bool.{true, false}
use lib.ListN.{length, get_or}
use Rattle.laws.specs.Memory.{part}
use Rattle.laws.proofs.PartLaws.{part_is}
use Rattle.laws.proofs.EachLaws.{each_passed}
use Rattle.laws.specs.Verdict.{passed}
use Rattle.floor.specs.declared.Floor.{Floor}
use Rattle.floor.specs.Checks.{among, count_of, dock_of, is_dock, carriers_of}
use Rattle.floor.specs.Accepted.{Within, Absent, CountsWithin, Accepted}
use Rattle.floor.proofs.AmongLaws.{among_found, among_place, absent_all}
use Rattle.floor.proofs.CheckMeans.{carrier_in_grid_means}

-- Four numbers of a list, one behind the other.
pub four_part : (xs : List ℕ) (at : ℕ) → at + 4 ≤ length xs
    → (get_or xs at 0 ∷ get_or xs (at + 1) 0 ∷ get_or xs (at + 2) 0 ∷ get_or xs (at + 3) 0 ∷ []) ≡ part xs at 4
four_part xs at l = sym (part_is xs at 4 _ l refl each)
  where
    each : (i : ℕ) → i < 4
        → get_or xs (at + i) 0 ≡ get_or (get_or xs at 0 ∷ get_or xs (at + 1) 0 ∷ get_or xs (at + 2) 0 ∷ get_or xs (at + 3) 0 ∷ []) i 0
    each zero h = rw add-zero
    each (suc zero) h = refl
    each (suc (suc zero)) h = refl
    each (suc (suc (suc zero))) h = refl
    each (suc (suc (suc (suc i)))) h = absurd (omega arith)

-- Where check 3 passes for the carriers, each dock count is within its limits.
pub passed_counted : (f : Floor) → carriers_of f ≡ passed → CountsWithin f
unfolding carriers_of
passed_counted f h i l = (each_passed 3 1 _ _ (carrier_in_grid_means f) _ h i l).0

-- What an accepted floor says of a carrier's docks: 1 to 4, each in the grid and on no wall, no two alike.
pub record DocksAccepted (f : Floor) (ws : List ℕ) (i : ℕ) : Type 0 where
  pub counted : Within 1 4 (count_of f i)
  pub in_grid_lem : (k : ℕ) → k < count_of f i → dock_of f i k < f.width * f.height
  pub clear : (k : ℕ) → k < count_of f i → Absent ws f.walls (dock_of f i k)
  pub apart : (j k : ℕ) → j < k → k < count_of f i → dock_of f i j ≡ dock_of f i k → ⊥

pub accepted_docks : {f : Floor} {ws : List ℕ} → Accepted f ws → (i : ℕ) → i < f.carriers → DocksAccepted f ws i
unfolding dock_of
accepted_docks a i l =
    record {
      counted = (a.carriers_in_grid i l).0;
      in_grid_lem = (a.carriers_in_grid i l).1.1;
      clear = (a.clear i l).1;
      apart = λ j k b h e. a.unrepeated i l k h j b e;
    }

-- A cell is a dock exactly if it stands in the list.
pub dock_is : (f : Floor) (i k : ℕ) → k < count_of f i → is_dock f i (dock_of f i k) ≡ true
unfolding is_dock dock_of
dock_is f i k l = among_found _ _ k _ l refl

pub dock_at : (f : Floor) (i c : ℕ) → is_dock f i c ≡ true → (k : ℕ) × (k < count_of f i) × (dock_of f i k ≡ c)
unfolding is_dock dock_of
dock_at f i c h = among_place _ c _ h

-- A dock of an accepted floor lies in the grid.
pub dock_in_grid : {f : Floor} {ws : List ℕ} → Accepted f ws → (i : ℕ) → i < f.carriers → (c : ℕ) → is_dock f i c ≡ true
    → c < f.width * f.height
dock_in_grid {f} a i l c h =
    let d = dock_at f i c h in
    rw d.2 at ((accepted_docks a i l).in_grid_lem d.0 d.1)

-- A dock of an accepted floor is no wall.
pub dock_clear : {f : Floor} {ws : List ℕ} → Accepted f ws → (i : ℕ) → i < f.carriers → (c : ℕ) → is_dock f i c ≡ true
    → among ws f.walls c ≡ false
dock_clear {f} {ws} a i l c h =
    let d = dock_at f i c h in
    rw d.2 at (absent_all ws (dock_of f i d.0) f.walls ((accepted_docks a i l).clear d.0 d.1))
