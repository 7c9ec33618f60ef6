-- A floor with one dock a carrier gets document 01's verdict, but for goals in common.
use Prim.Native.Nat.{ℕ, zero, suc, ◌+◌, ◌*◌, ◌≤◌, ◌<◌}
use native.Mathlib.Omega.{arith}
use native.Mathlib.Nat.{add-zero}
use mathlib.Core.Path.{◌≡◌, refl, sym, ◌∙◌}
use mathlib.Core.Bool.{Bool, true, not}
use mathlib.Core.Logic.{◌↔◌}
use mathlib.Core.List.{List, [], ◌∷◌}
use lib.ListN.{length, get_or, replicate}
use lib.Dec.{eqb}
use borrow.Author.Tests.{eq-eqb, eqb-true}
use Rattle.laws.specs.Verdict.{Verdict, passed, refused, ◌then◌, demand_each, First, each}
use Rattle.laws.proofs.PartLaws.{part_byte}
use Rattle.laws.proofs.Tests.{not_refutes, same_test}
use Rattle.laws.proofs.EachLaws.{Decides, each_passed, all_passes, each_refused, first_refuses}
use Rattle.laws.proofs.VerdictLaws.{then_both, then_assoc, then_passed, then_refused, refused_by, demand_same, demand_passes, turn_passes}
use Rattle.floor.specs.Checks.{within, among, start_of, count_of, docks_of, dock_of, is_dock, in_grid, docks_in_grid, carrier_in_grid}
use Rattle.floor.specs.Checks.{docks_clear, clear_of_walls, unshared, unrepeated, limits_of, lent_of, long_enough, carriers_of}
use Rattle.floor.specs.Checks.{walls_of, rising_of, clear_of, distinct_of, unrepeated_of, places_of, check_of}
use Rattle.floor.specs.OneDock.{OneDockFloor, one_each, with_one_dock, earlier_limits, earlier_inside, both_inside, earlier_carriers}
use Rattle.floor.specs.Accepted.{Absent}
use Rattle.floor.specs.OneDock.{GoalsDistinct, earlier_walls, earlier_rising, both_clear, earlier_clear, neither_shared, earlier_distinct, earlier_check}
use Rattle.floor.proofs.LimitsLaws.{limits_passed}
use Rattle.floor.proofs.CheckMeans.{both_mean, absent_means}

-- Every fourth place has a goal.
goal_at : (xs : List ℕ) (i : ℕ) → get_or (one_each xs) (4 * i) 0 ≡ get_or xs i 0
unfolding one_each
goal_at [] zero = refl
goal_at [] (suc i) = refl
goal_at (d ∷ xs) zero = refl
goal_at (d ∷ xs) (suc i) = let e : 4 * suc i ≡ suc (suc (suc (suc (4 * i)))) = omega arith in rw e (goal_at xs i)

module _ (old : OneDockFloor) where
  -- The one dock is the goal.
  one_goal : (i : ℕ) → dock_of (with_one_dock old) i 0 ≡ get_or old.goals i 0
  unfolding dock_of docks_of with_one_dock
  one_goal i = part_byte (one_each old.goals) (4 * i) 4 0 (omega arith) ∙ rw add-zero (goal_at old.goals i)

one_each_lem : (i : ℕ) → i < 8 → ◌≡◌ {A = ℕ} (get_or (replicate 8 1) i 0) 1
one_each_lem zero l = refl
one_each_lem (suc zero) l = refl
one_each_lem (suc (suc zero)) l = refl
one_each_lem (suc (suc (suc zero))) l = refl
one_each_lem (suc (suc (suc (suc zero)))) l = refl
one_each_lem (suc (suc (suc (suc (suc zero))))) l = refl
one_each_lem (suc (suc (suc (suc (suc (suc zero)))))) l = refl
one_each_lem (suc (suc (suc (suc (suc (suc (suc zero))))))) l = refl
one_each_lem (suc (suc (suc (suc (suc (suc (suc (suc i)))))))) l = absurd (omega arith)

module _ (old : OneDockFloor) (ws : List ℕ) (few : old.carriers ≤ 8) where
  -- Carriers that are there have one dock.
  one_count : (i : ℕ) → i < old.carriers → count_of (with_one_dock old) i ≡ 1
  unfolding count_of with_one_dock
  one_count i l = one_each_lem i (omega arith)

  -- Only the goal is a dock.
  pub one_is_dock : (i c : ℕ) → i < old.carriers → is_dock (with_one_dock old) i c ≡ eqb c (get_or old.goals i 0)
  unfolding is_dock among dock_of
  one_is_dock i c l =
      let d = get_or old.goals i 0 in
      rw (one_count i l, one_goal old i)
      (same_test (eqb d c) (eqb c d) (λ h. eq-eqb c d (sym (eqb-true d c h))) (λ h. eq-eqb d c (sym (eqb-true c d h))))

  one_every : (i : ℕ) → i < old.carriers → (φ : ℕ → Bool)
      → each (count_of (with_one_dock old) i) (λ k. φ (dock_of (with_one_dock old) i k)) ≡ φ (get_or old.goals i 0)
  unfolding each
  one_every i l φ = rw (one_count i l, one_goal old i) refl

  carrier_one : (i : ℕ) → i < old.carriers → carrier_in_grid (with_one_dock old) i ≡ both_inside old i
  unfolding carrier_in_grid docks_in_grid both_inside in_grid earlier_inside start_of within with_one_dock
  carrier_one i l = rw (one_every i l (earlier_inside old), one_count i l) refl

  carriers_one : carriers_of (with_one_dock old) ≡ earlier_carriers old
  unfolding carriers_of earlier_carriers with_one_dock
  carriers_one = demand_same 3 1 _ _ old.carriers carrier_one

  walls_one : walls_of (with_one_dock old) ws ≡ earlier_walls old ws
  unfolding walls_of earlier_walls in_grid earlier_inside with_one_dock
  walls_one = refl

  rising_one : rising_of (with_one_dock old) ws ≡ earlier_rising old ws
  unfolding rising_of earlier_rising with_one_dock
  rising_one = refl

  clear_each : (i : ℕ) → i < old.carriers → clear_of_walls (with_one_dock old) ws i ≡ both_clear old ws i
  unfolding clear_of_walls docks_clear both_clear start_of with_one_dock
  clear_each i l = rw (one_every i l (λ c. not (among ws old.walls c))) refl

  clear_one : clear_of (with_one_dock old) ws ≡ earlier_clear old ws
  unfolding clear_of earlier_clear with_one_dock
  clear_one = demand_same 5 1 _ _ old.carriers clear_each

  unrepeated_each : (i : ℕ) → i < old.carriers → unrepeated (with_one_dock old) i ≡ true
  unfolding unrepeated each among
  unrepeated_each i l = rw (one_count i l) refl

  unrepeated_one : unrepeated_of (with_one_dock old) ≡ passed
  unfolding unrepeated_of demand_each with_one_dock
  unrepeated_one = turn_passes _ old.carriers (λ i l. demand_passes 17 (1 + i) (unrepeated_each i l))

-- A check that finds nothing adds nothing, and what stands behind another counts only where that passes.
then_nothing : (x : Verdict) → (x then passed) ≡ x
unfolding ◌then◌
then_nothing passed = refl
then_nothing (refused k p) = refl

then_same : (x y z : Verdict) → (x ≡ passed → y ≡ z) → (x then y) ≡ (x then z)
unfolding ◌then◌
then_same passed y z h = h refl
then_same (refused k p) y z h = refl

-- The tests of a check over items say themselves.
itself : (ok : ℕ → Bool) → Decides ok (λ (i : ℕ). ok i ≡ true)
itself ok i = (λ h. h, λ h. h)

-- A check over items refuses with its own number.
own_number : (n : ℕ) (ok : ℕ → Bool) (j k p : ℕ) → demand_each n 1 ok j ≡ refused k p → k ≡ n
own_number n ok j k p h = each_refused n 1 ok _ (itself ok) (λ (a b : ℕ). a ≡ n) j k p h (λ i f. refl)

-- Where it refuses item i, i is the first whose test fails.
own_place : (n : ℕ) (ok : ℕ → Bool) (p k i : ℕ) → demand_each n 1 ok p ≡ refused k (1 + i) → First (λ (j : ℕ). ok j ≡ true) p i
own_place n ok p k i h =
    each_refused n 1 ok _ (itself ok) (λ (a b : ℕ). b ≡ 1 + i → First (λ (j : ℕ). ok j ≡ true) p i) p k (1 + i) h
    (λ j f q. let e : j ≡ i = omega arith in rw e at f) refl

-- Document 01's checks before 6.
before_six : OneDockFloor → List ℕ → Verdict
before_six old ws =
    earlier_limits old
    then long_enough old.walls (length ws)
    then earlier_carriers old
    then earlier_walls old ws
    then earlier_rising old ws
    then earlier_clear old ws

module _ (old : OneDockFloor) (ws : List ℕ) where
  earlier_is : earlier_check old ws ≡ (before_six old ws then earlier_distinct old)
  unfolding earlier_check before_six
  earlier_is = simp then_assoc

  limits_one : limits_of (with_one_dock old) ≡ earlier_limits old
  unfolding limits_of earlier_limits with_one_dock
  limits_one = refl

  lent_one : lent_of (with_one_dock old) ws ≡ long_enough old.walls (length ws)
  unfolding lent_of with_one_dock
  lent_one = refl

  few_carriers : earlier_limits old ≡ passed → old.carriers ≤ 8
  unfolding with_one_dock
  few_carriers h = (limits_passed (with_one_dock old) (limits_one ∙ h)).carriers.1

  today_is : check_of (with_one_dock old) ws ≡ (before_six old ws then distinct_of (with_one_dock old))
  unfolding check_of places_of before_six
  today_is =
      simp then_assoc
      (rw (limits_one, lent_one)
      (then_same (earlier_limits old) _ _ (λ h.
      let few = few_carriers h in
      rw (
        carriers_one old ws few,
        walls_one old ws few,
        rising_one old ws few,
        clear_one old ws few,
        unrepeated_one old ws few,
        then_nothing (distinct_of (with_one_dock old)),
      ) refl)))

  -- A carrier shares neither a start nor a goal exactly if it shares no start, and no earlier carrier has its goal.
  shares_means : (i : ℕ) → (neither_shared old i ≡ true) ↔
      ((unshared (with_one_dock old) i ≡ true) × Absent old.goals i (get_or old.goals i 0))
  unfolding neither_shared unshared start_of with_one_dock
  shares_means i = both_mean (λ h. h, λ h. h) (absent_means old.goals i _)

  -- Both verdicts pass the checks before 6; document 01's 6 passes exactly if today's does and the goals are distinct.
  pub exactly_accepted : (earlier_check old ws ≡ passed) ↔ ((check_of (with_one_dock old) ws ≡ passed) × GoalsDistinct old)
  unfolding earlier_distinct distinct_of with_one_dock
  exactly_accepted = (
    λ h.
        let b = then_both _ _ (sym earlier_is ∙ h) in
        let each = each_passed 6 1 _ _ shares_means old.carriers b.1 in (
          today_is ∙ then_passed b.0 ∙ all_passes 6 1 _ _ (itself (unshared (with_one_dock old))) old.carriers (λ i l. (each i l).0),
          λ i l. (each i l).1,
        ),
    λ h.
        let b = then_both _ _ (sym today_is ∙ h.0) in
        let each = each_passed 6 1 _ _ (itself (unshared (with_one_dock old))) old.carriers b.1 in
        earlier_is ∙ then_passed b.0 ∙ all_passes 6 1 _ _ shares_means old.carriers (λ i l. (each i l, h.1 i l)),
  )

  pub still_refused : (k p : ℕ) → (k ≡ 6 → ⊥) → (earlier_check old ws ≡ refused k p) ↔ (check_of (with_one_dock old) ws ≡ refused k p)
  unfolding earlier_distinct distinct_of with_one_dock
  still_refused k p n = (
    λ h. refused_by (sym earlier_is ∙ h) (λ r. today_is ∙ then_refused _ r) (λ a r. absurd (n (own_number 6 _ _ k p r))),
    λ h. refused_by (sym today_is ∙ h) (λ r. earlier_is ∙ then_refused _ r) (λ a r. absurd (n (own_number 6 _ _ k p r))),
  )

  pub still_six : (i : ℕ) → earlier_check old ws ≡ refused 6 (1 + i) → among old.starts i (get_or old.starts i 0) ≡ true
      → check_of (with_one_dock old) ws ≡ refused 6 (1 + i)
  unfolding earlier_distinct distinct_of unshared start_of with_one_dock
  still_six i h t =
      refused_by (sym earlier_is ∙ h) (λ r. today_is ∙ then_refused _ r) (λ a r.
      let f = own_place 6 (neither_shared old) old.carriers 6 i r in
      today_is ∙ then_passed a
      ∙ first_refuses 6 1 (unshared (with_one_dock old)) _ (itself (unshared (with_one_dock old))) old.carriers i
      (record { listed = f.listed; fails = λ q. not_refutes _ q t; before = λ j l. ((shares_means j).0 (f.before j l)).0 }))
