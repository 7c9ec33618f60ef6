-- The claims of the floor, proved.
use Prim.Native.Nat.{ℕ}
use mathlib.Core.Path.{◌≡◌, refl, sym, ◌∙◌}
use mathlib.Core.Logic.{◌↔◌}
use mathlib.Core.List.{List}
use borrow.Author.Tests.{le-leb, lt-leb, leb-false}
use Rattle.floor.specs.declared.Floor.{Floor}
use Rattle.laws.specs.Verdict.{passed, refused, ◌then◌, demand, in_turn, demand_each, each}
use Rattle.floor.specs.Checks.{within, among, start_of, count_of, docks_of, dock_of, limits_of, lent_of, long_enough, carriers_of, walls_of}
use Rattle.floor.specs.Checks.{rising_of, clear_of, distinct_of, unrepeated_of, places_of, check_of, docks_in_grid, carrier_in_grid, in_grid}
use Rattle.floor.specs.Checks.{rises, docks_clear, clear_of_walls, unshared, unrepeated}
use Rattle.laws.specs.Memory.{part}
use Rattle.floor.specs.Fresh.{fresh_floor}
use Rattle.floor.specs.Accepted.{Accepted, Limited, Lent, CarriersInGrid, WallsInGrid, Rising, Clear, Distinct, AllUnrepeated}
use Rattle.floor.specs.Refused.{RefusedWith, outside_limit, few_walls, carrier_outside, wall_outside, not_rising, on_wall}
use Rattle.floor.specs.Refused.{shared, repeated}
use Rattle.floor.specs.Claims.{Claims}
use Rattle.laws.proofs.VerdictLaws.{then_both, then_refused, refused_by, demand_cases}
use Rattle.laws.proofs.EachLaws.{each_means, each_refused, first_refuses}
use Rattle.floor.proofs.LimitsLaws.{field_means, limits_each, limits_mean, lent_passed}
use Rattle.floor.proofs.SameLaws.{check_same}
use Rattle.floor.proofs.OrderLaws.{order_same}
use Rattle.floor.proofs.OneDockLaws.{exactly_accepted, still_refused, still_six}
use Rattle.floor.proofs.CheckMeans.{carrier_in_grid_means, wall_in_grid_means, rises_means, clear_means}
use Rattle.floor.proofs.CheckMeans.{unshared_means, unrepeated_means}

module _ (f : Floor) (ws : List ℕ) where
  lent_means : (lent_of f ws ≡ passed) ↔ Lent f ws
  unfolding lent_of long_enough demand
  lent_means = (lent_passed f ws, λ l. rw (le-leb _ _ l))

  carriers_mean : (carriers_of f ≡ passed) ↔ CarriersInGrid f
  unfolding carriers_of
  carriers_mean = each_means 3 1 _ _ (carrier_in_grid_means f) _

  walls_mean : (walls_of f ws ≡ passed) ↔ WallsInGrid f ws
  unfolding walls_of
  walls_mean = each_means 3 _ _ _ (wall_in_grid_means f ws) _

  rising_means : (rising_of f ws ≡ passed) ↔ Rising f ws
  unfolding rising_of
  rising_means = each_means 4 _ _ _ (rises_means ws) _

  clear_mean : (clear_of f ws ≡ passed) ↔ Clear f ws
  unfolding clear_of
  clear_mean = each_means 5 1 _ _ (clear_means f ws) _

  distinct_mean : (distinct_of f ≡ passed) ↔ Distinct f
  unfolding distinct_of
  distinct_mean = each_means 6 1 _ _ (unshared_means f) _

  unrepeated_mean : (unrepeated_of f ≡ passed) ↔ AllUnrepeated f
  unfolding unrepeated_of
  unrepeated_mean = each_means 17 1 _ _ (unrepeated_means f) _

  -- An accepted floor, from the checks one by one.
  accepted : check_of f ws ≡ passed → Accepted f ws
  unfolding check_of places_of
  accepted h =
      let a = then_both _ _ h in
      let b = then_both _ _ a.1 in
      let c = then_both _ _ b.1 in
      let d = then_both _ _ c.1 in
      let e = then_both _ _ d.1 in
      let g = then_both _ _ e.1 in
      let k = then_both _ _ g.1 in
      record {
        limited = (limits_mean f).0 a.0;
        lent = lent_means.0 b.0;
        carriers_in_grid = carriers_mean.0 c.0;
        walls_in_grid = walls_mean.0 d.0;
        rising = rising_means.0 e.0;
        clear = clear_mean.0 g.0;
        distinct = distinct_mean.0 k.0;
        unrepeated = unrepeated_mean.0 k.1;
      }

  -- All checks pass on an accepted floor.
  all_pass : Accepted f ws → check_of f ws ≡ passed
  unfolding check_of places_of ◌then◌
  all_pass a =
      rw (
        (limits_mean f).1 a.limited,
        lent_means.1 a.lent,
        carriers_mean.1 a.carriers_in_grid,
        walls_mean.1 a.walls_in_grid,
        rising_means.1 a.rising,
        clear_mean.1 a.clear,
        distinct_mean.1 a.distinct,
        unrepeated_mean.1 a.unrepeated,
      )

  -- The refusals of 3 to 6 and 17, once 2 and 9 have passed.
  places_refuse : (k p : ℕ) → Limited f → Lent f ws → places_of f ws ≡ refused k p → RefusedWith f ws k p
  unfolding places_of carriers_of walls_of rising_of clear_of distinct_of unrepeated_of
  places_refuse k p l n h =
      refused_by h
      (λ r. each_refused 3 1 _ _ (carrier_in_grid_means f) (RefusedWith f ws) _ k p r (λ i. carrier_outside l n))
      (λ a h.
      refused_by h
      (λ r. each_refused 3 _ _ _ (wall_in_grid_means f ws) (RefusedWith f ws) _ k p r (λ i. wall_outside l n (carriers_mean.0 a)))
      (λ b h.
      refused_by h
      (λ r. each_refused 4 _ _ _ (rises_means ws) (RefusedWith f ws) _ k p r
      (λ i. not_rising l n (carriers_mean.0 a) (walls_mean.0 b)))
      (λ c h.
      refused_by h
      (λ r. each_refused 5 1 _ _ (clear_means f ws) (RefusedWith f ws) _ k p r
      (λ i. on_wall l n (carriers_mean.0 a) (walls_mean.0 b) (rising_means.0 c)))
      (λ d h.
      refused_by h
      (λ r. each_refused 6 1 _ _ (unshared_means f) (RefusedWith f ws) _ k p r
      (λ i. shared l n (carriers_mean.0 a) (walls_mean.0 b) (rising_means.0 c) (clear_mean.0 d)))
      (λ e r. each_refused 17 1 _ _ (unrepeated_means f) (RefusedWith f ws) _ k p r
      (λ i. repeated l n (carriers_mean.0 a) (walls_mean.0 b) (rising_means.0 c) (clear_mean.0 d) (distinct_mean.0 e)))))))

  -- A refusal has the condition of its row.
  row : (k p : ℕ) → check_of f ws ≡ refused k p → RefusedWith f ws k p
  unfolding check_of lent_of long_enough
  row k p h =
      refused_by h
      (λ r. each_refused 2 1 _ _ (field_means f) (RefusedWith f ws) 6 k p (sym (limits_each f) ∙ r) (λ i. outside_limit))
      (λ a h.
      refused_by h
      (λ r.
      let d = demand_cases _ 9 0 k p r in
      rw (d.1, d.2) (few_walls ((limits_mean f).0 a) (leb-false _ _ d.0)))
      (λ b r. places_refuse k p ((limits_mean f).0 a) (lent_means.0 b) r))

  -- The condition of a row gives its refusal.
  refusal : (k p : ℕ) → RefusedWith f ws k p → check_of f ws ≡ refused k p
  unfolding check_of places_of carriers_of walls_of rising_of clear_of distinct_of unrepeated_of lent_of long_enough demand ◌then◌
  refusal k p (outside_limit h) = rw (limits_each f, first_refuses 2 1 _ _ (field_means f) 6 _ h)
  refusal k p (few_walls l h) = rw ((limits_mean f).1 l, lt-leb _ _ h)
  refusal k p (carrier_outside l n h) =
      rw ((limits_mean f).1 l, lent_means.1 n, first_refuses 3 1 _ _ (carrier_in_grid_means f) _ _ h)
  refusal k p (wall_outside l n a h) =
      rw ((limits_mean f).1 l, lent_means.1 n, carriers_mean.1 a, first_refuses 3 _ _ _ (wall_in_grid_means f ws) _ _ h)
  refusal k p (not_rising l n a b h) =
      rw ((limits_mean f).1 l, lent_means.1 n, carriers_mean.1 a, walls_mean.1 b)
      (then_refused _ (first_refuses 4 _ _ _ (rises_means ws) _ _ h))
  refusal k p (on_wall l n a b c h) =
      rw ((limits_mean f).1 l, lent_means.1 n, carriers_mean.1 a, walls_mean.1 b, rising_means.1 c)
      (then_refused _ (first_refuses 5 1 _ _ (clear_means f ws) _ _ h))
  refusal k p (shared l n a b c d h) =
      rw ((limits_mean f).1 l, lent_means.1 n, carriers_mean.1 a, walls_mean.1 b, rising_means.1 c, clear_mean.1 d)
      (then_refused _ (first_refuses 6 1 _ _ (unshared_means f) _ _ h))
  refusal k p (repeated l n a b c d e h) =
      rw (
        (limits_mean f).1 l,
        lent_means.1 n,
        carriers_mean.1 a,
        walls_mean.1 b,
        rising_means.1 c,
        clear_mean.1 d,
        distinct_mean.1 e,
      )
      (first_refuses 17 1 _ _ (unrepeated_means f) _ _ h)

pub theorems : Claims
unfolding check_of limits_of lent_of long_enough places_of carriers_of walls_of rising_of clear_of distinct_of unrepeated_of fresh_floor ◌then◌ demand
    demand_each in_turn within carrier_in_grid docks_in_grid in_grid start_of count_of docks_of dock_of part each rises clear_of_walls docks_clear among
    unshared unrepeated
theorems =
    record {
      passes_exactly = λ f ws. (accepted f ws, all_pass f ws);
      refuses_exactly = λ f ws k p. (row f ws k p, refusal f ws k p);
      fresh_accepted = refl;
      same_verdict = λ f ws f' ws' same. check_same f ws f' ws' same;
      order_nothing = λ f f' ws same. order_same f f' ws same;
      earlier_accepted = λ old ws h. ((exactly_accepted old ws).0 h).0;
      earlier_exactly = λ old ws. exactly_accepted old ws;
      earlier_refused = λ old ws. still_refused old ws;
      earlier_start = λ old ws. still_six old ws;
    }
