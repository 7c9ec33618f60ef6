-- The tests of a route find nothing exactly if it is a route of its task.
use Prim.Native.Nat.{ℕ, zero, suc, ◌+◌, ◌-◌, ◌≤◌, ◌<◌}
use native.Mathlib.Omega.{arith}
use native.Mathlib.Numerals.{add-one}
use mathlib.Core.List.{List, [], ◌∷◌}
use mathlib.Core.Logic.{⊎_elim}
use mathlib.Core.Path.{◌≡◌, refl, ◌∙◌}
use lib.Dec.{ltb}
use lib.ListN.{length, get_or}
use borrow.Author.Tests.{eqb-true, eq-eqb, ltb-true, lt-ltb}
use Rattle.laws.specs.Verdict.{passed}
use Rattle.laws.proofs.Tests.{and_both, and_fst, and_snd, lt_or_le}
use Rattle.laws.proofs.VerdictLaws.{then_both, then_passed, demand_holds, demand_passes}
use Rattle.laws.proofs.EachLaws.{Decides, each_passed, all_passes}
use Rattle.route.specs.Route.{cell_at, Task}
use Rattle.route.specs.Moves.{near}
use Rattle.route.specs.Best.{IsRoute}
use Rattle.route.proofs.NearLaws.{near_says, near_holds}
use Rattle.legality.specs.Faults.{Stands, Steps, ZeroFrom}
use Rattle.legality.specs.Tests.{begin_test, cells_test, moves_test, dock_test, zero_at, blank_test, free_in, route_test}

-- Past its end a list has 0.
past_end : (r : List ℕ) (t : ℕ) → length r ≤ t → get_or r t 0 ≡ 0
past_end [] t l = refl
past_end (x ∷ r) zero l = absurd (omega arith)
past_end (x ∷ r) (suc t) l = past_end r t (omega arith)

-- Of 64 numbers those from a beat on are 0 exactly if all are from there on.
module _ (r : List ℕ) (from : ℕ) where
  pub zero_means : Decides (zero_at r from) (ZeroFrom r from)
  unfolding zero_at
  zero_means k = (eqb-true _ _, eq-eqb _ _)

  pub blank_below : ((t : ℕ) → from ≤ t → t < 64 → cell_at r t ≡ 0) → blank_test from r ≡ passed
  unfolding blank_test
  blank_below h = all_passes 7 from _ _ zero_means (64 - from) (λ k l. h (from + k) (omega arith) (omega arith))

module _ (r : List ℕ) (long : length r ≡ 64) (from : ℕ) where
  pub blank_says : blank_test from r ≡ passed → (t : ℕ) → from ≤ t → cell_at r t ≡ 0
  unfolding blank_test cell_at
  blank_says e t l =
      ⊎_elim
      (λ (h : t < 64).
      let same : from + (t - from) ≡ t = omega arith in
      rw same at (each_passed 7 from _ _ (zero_means r from) (64 - from) e (t - from) (omega arith)))
      (λ (h : 64 ≤ t). past_end r t (omega (arith, long)))
      (lt_or_le t 64)

module _ (task : Task) (r : List ℕ) where
  -- The tests of a beat and of a move mean what they say.
  pub stands_means : Decides (λ t. free_in task (cell_at r t)) (Stands task r)
  unfolding free_in
  stands_means t = (
    λ e. (ltb-true _ _ (and_fst (ltb (cell_at r t) task.cells) _ e), and_snd (ltb (cell_at r t) task.cells) _ e),
    λ h. and_both (lt-ltb _ _ h.0) h.1,
  )

  pub steps_means : Decides (λ t. near task.width (cell_at r t) (cell_at r (t + 1))) (Steps task r)
  steps_means t = (near_says task.width (cell_at r t) (cell_at r (t + 1)), near_holds task.width (cell_at r t) (cell_at r (t + 1)))

  -- What the five tests say, each found nothing.
  record Passed : Type 0 where
    begins : begin_test task.start r ≡ passed
    cells : cells_test (free_in task) task.horizon r ≡ passed
    moves : moves_test task.width task.horizon r ≡ passed
    dock : dock_test task.dock task.horizon r ≡ passed
    blank : blank_test (task.horizon + 1) r ≡ passed

  passed_all : route_test task r ≡ passed → Passed
  unfolding route_test
  passed_all e =
      let one = then_both (begin_test task.start r) _ e in
      let two = then_both (cells_test (free_in task) task.horizon r) _ one.1 in
      let three = then_both (moves_test task.width task.horizon r) _ two.1 in
      let four = then_both (dock_test task.dock task.horizon r) _ three.1 in
      record { begins = one.0; cells = two.0; moves = three.0; dock = four.0; blank = four.1 }

  all_passed : Passed → route_test task r ≡ passed
  unfolding route_test
  all_passed p =
      then_passed p.begins ∙ then_passed p.cells ∙ then_passed p.moves ∙ then_passed p.dock ∙ p.blank

  module _ (long : length r ≡ 64) where
    pub passed_route : route_test task r ≡ passed → IsRoute task r
    unfolding begin_test cells_test moves_test dock_test
    passed_route e =
        let p = passed_all e in
        let at = each_passed 4 0 _ (Stands task r) stands_means (task.horizon + 1) p.cells in
        let to = each_passed 5 0 _ (Steps task r) steps_means task.horizon p.moves in
        record {
          long = long;
          begins = eqb-true _ _ (demand_holds _ 3 0 p.begins);
          ends = demand_holds _ 6 task.horizon p.dock;
          moves = λ t l. rw (add-one t) at (to t l);
          inside = λ t l. (at t (omega arith)).0;
          off_walls = λ t l. (at t (omega arith)).1;
          blank = λ t l. blank_says r long (task.horizon + 1) p.blank t (omega arith);
        }

    pub route_passed : IsRoute task r → route_test task r ≡ passed
    unfolding begin_test cells_test moves_test dock_test
    route_passed h =
        all_passed
        (record {
          begins = demand_passes 3 0 (eq-eqb _ _ h.begins);
          cells = all_passes 4 0 _ (Stands task r) stands_means (task.horizon + 1)
              (λ t l. (h.inside t (omega arith), h.off_walls t (omega arith)));
          moves = all_passes 5 0 _ (Steps task r) steps_means task.horizon (λ t l. rw (add-one t) (h.moves t l));
          dock = demand_passes 6 task.horizon h.ends;
          blank = blank_below r (task.horizon + 1) (λ t l k. h.blank t (omega arith));
        })
