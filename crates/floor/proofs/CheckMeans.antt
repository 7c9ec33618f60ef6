-- What the Bool test of each check means, as the statements of `Accepted`.
use Prim.Native.Nat.{ℕ, zero, suc}
use native.Mathlib.Omega.{arith}
use mathlib.Core.Path.{◌≡◌, refl, ap}
use mathlib.Core.Bool.{Bool, true, ◌&&◌, not, and-eq-true_iff}
use mathlib.Core.Logic.{◌↔◌}
use mathlib.Core.List.{List}
use borrow.Author.Tests.{ltb-true, lt-ltb, not-true}
use lib.ListN.{get_or}
use Rattle.laws.proofs.Tests.{false_fails}
use Rattle.floor.specs.declared.Floor.{Floor}
use Rattle.floor.specs.Checks.{docks_of, dock_of, in_grid, docks_in_grid, carrier_in_grid, rises, among, docks_clear, clear_of_walls, unshared}
use Rattle.floor.specs.Checks.{unrepeated}
use Rattle.floor.specs.Accepted.{InGrid, CarrierInGrid, WallInGrid, Rises, Absent, ClearOfWalls, Unshared, Unrepeated}
use Rattle.laws.proofs.EachLaws.{Decides}
use Rattle.floor.proofs.AmongLaws.{among_found, absent_all}
use Rattle.laws.proofs.HoldLaws.{each_decides}
use Rattle.floor.proofs.LimitsLaws.{within_means}

-- Two tests joined mean both statements.
pub both_mean : {x y : Bool} {A B : Type 0} → (x ≡ true) ↔ A → (y ≡ true) ↔ B → ((x && y) ≡ true) ↔ (A × B)
both_mean {x} {y} f g = (
  λ h. let s = (and-eq-true_iff x y).0 h in (f.0 s.0, g.0 s.1),
  λ h. (and-eq-true_iff x y).1 (f.1 h.0, g.1 h.1),
)

pub in_grid_means : (f : Floor) (c : ℕ) → (in_grid f c ≡ true) ↔ InGrid f c
unfolding in_grid
in_grid_means f c = (ltb-true _ _, lt-ltb _ _)

pub carrier_in_grid_means : (f : Floor) → Decides (carrier_in_grid f) (CarrierInGrid f)
unfolding carrier_in_grid docks_in_grid
carrier_in_grid_means f i =
    both_mean (within_means 1 4 _)
    (both_mean (in_grid_means f _) (each_decides _ (λ (k : ℕ). InGrid f (dock_of f i k)) (λ k. in_grid_means f _) _))

pub wall_in_grid_means : (f : Floor) (ws : List ℕ) → Decides (λ j. in_grid f (get_or ws j 0)) (WallInGrid f ws)
wall_in_grid_means f ws j = in_grid_means f _

pub rises_means : (ws : List ℕ) → Decides (rises ws) (Rises ws)
unfolding rises
rises_means ws zero = (λ h k e. absurd (omega arith), λ h. refl)
rises_means ws (suc j) = (λ h k e. let q : k ≡ j = omega arith in rw q (ltb-true _ _ h), λ h. lt-ltb _ _ (h j refl))

pub absent_means : (xs : List ℕ) (k c : ℕ) → (not (among xs k c) ≡ true) ↔ Absent xs k c
absent_means xs k c = (
  λ h i l e. false_fails (not-true _ h) (among_found xs c i k l e),
  λ a. ap not (absent_all xs c k a),
)

pub clear_means : (f : Floor) (ws : List ℕ) → Decides (clear_of_walls f ws) (ClearOfWalls f ws)
unfolding clear_of_walls docks_clear
clear_means f ws i =
    both_mean (absent_means ws _ _)
    (each_decides _ (λ (k : ℕ). Absent ws f.walls (dock_of f i k)) (λ k. absent_means ws _ _) _)

pub unshared_means : (f : Floor) → Decides (unshared f) (Unshared f)
unfolding unshared
unshared_means f i = absent_means f.starts _ _

pub unrepeated_means : (f : Floor) → Decides (unrepeated f) (Unrepeated f)
unfolding unrepeated
unrepeated_means f i = each_decides _ (λ (k : ℕ). Absent (docks_of f i) k (dock_of f i k)) (λ k. absent_means (docks_of f i) _ _) _
