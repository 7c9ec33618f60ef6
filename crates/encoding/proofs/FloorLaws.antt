-- An accepted floor: its machine can lie in memory, its best answers are within the ranges, and walls past those it counts do not matter.
use Prim.Native.Nat.{ℕ, ◌+◌, ◌≤◌, ◌<◌}
use native.Mathlib.Omega.{arith}
use mathlib.Core.Bool.{Bool, not}
use mathlib.Core.List.{List}
use mathlib.Core.Path.{◌≡◌, refl, ◌∙◌, ap, fun_ext}
use lib.ListN.{length, take, length-take}
use lib.Seq.{get_or-take}
use borrow.Author.Tests.{lt-leb}
use Rattle.floor.specs.declared.Floor.{Floor}
use Rattle.laws.specs.Verdict.{passed, refused}
use Rattle.floor.specs.Checks.{check_of, lent_of, long_enough, places_of, among}
use Rattle.floor.specs.Accepted.{SameFloor}
use Rattle.floor.proofs.LimitsLaws.{CheckTells, check_tells}
use Rattle.floor.proofs.SameLaws.{among_same, walls_agree, check_same}
use Rattle.laws.proofs.VerdictLaws.{then_passed, then_refused, demand_refuses}
use Rattle.route.specs.Route.{Answer, none, route, View, cell_at}
use Rattle.route.specs.Best.{IsRoute}
use Rattle.route.specs.Search.{best}
use Rattle.route.proofs.Theorems.{theorems}
use Rattle.records.specs.Seen.{seen}
use Rattle.search.specs.Task.{task_of, task_with}
use Rattle.planner.specs.Plan.{respond_of}
use Rattle.reference.specs.State.{Machine}
use Rattle.encoding.specs.Ranges.{Sound}
use Rattle.encoding.specs.Places.{state_size}
use Rattle.encoding.specs.Calls.{machine_of}
use Rattle.encoding.proofs.RecordLaws.{sound_whole}
use Rattle.encoding.proofs.StepLaws.{Storable}

pub none_sound : (f : Floor) → Sound f none
unfolding Sound
none_sound f = tt

-- A route of a task of the floor is within its ranges.
route_sound : (f : Floor) (ws : List ℕ) (i : ℕ) (r : List ℕ) → IsRoute (task_of f ws i) r → Sound f (route r)
unfolding Sound task_of cell_at
route_sound f ws i r h = record { long = h.long; inside = h.inside; behind = h.blank }

task_horizon : (f : Floor) (ws : List ℕ) (i : ℕ) → f.horizon ≤ 63 → (task_of f ws i).horizon ≤ 63
unfolding task_of
task_horizon f ws i h = h

-- A best answer is within the ranges of its floor.
best_sound : (f : Floor) (ws : List ℕ) → f.horizon ≤ 63 → (i : ℕ) (vs : List View) → Sound f (respond_of f ws i vs)
unfolding respond_of
best_sound f ws h i vs = go (best (task_of f ws (i + 1)) (seen f vs)) refl
  where
    go : (x : Answer) → best (task_of f ws (i + 1)) (seen f vs) ≡ x → Sound f x
    go none e = none_sound f
    go (route r) e =
        route_sound f ws (i + 1) r (theorems.best_is_route (task_of f ws (i + 1)) (seen f vs) r (task_horizon f ws (i + 1) h) e).0

-- The machine of a floor with these cells free.
abbrev machine_with : Floor → (ℕ → Bool) → Machine
machine_with f free =
    record {
      carriers = f.carriers;
      depth = f.depth;
      needed = state_size f.carriers;
      respond = λ i vs. best (task_with f (i + 1) free) (seen f vs);
    }

module _ (f : Floor) (ws : List ℕ) where
  -- Where enough walls are lent, the floor with fewer of the others is the same, and so is its machine.
  lent_floor : (k : ℕ) → f.walls ≤ k → SameFloor f (take k ws) f ws
  lent_floor k l = walls_agree f (take k ws) ws (λ i h. get_or-take k ws i 0 (omega arith))

  pub machine_lent : (k : ℕ) → f.walls ≤ k → machine_of f (take k ws) ≡ machine_of f ws
  unfolding machine_of respond_of task_of
  machine_lent k l =
      let same : ◌≡◌ {A = ℕ → Bool} (λ c. not (among (take k ws) f.walls c)) (λ c. not (among ws f.walls c)) =
      fun_ext (λ c. ap not (among_same (take k ws) ws f.walls c (λ i h. get_or-take k ws i 0 (omega arith))))
      in
      ap (machine_with f) same

  module _ (ok : check_of f ws ≡ passed) where
    tells : CheckTells f ws
    tells = check_tells f ws ok

    pub depth_few : f.depth ≤ 4
    depth_few = tells.bounds.depth.1

    pub depth_some : 1 ≤ f.depth
    depth_some = tells.bounds.depth.0

    pub horizon_short : f.horizon ≤ 63
    horizon_short = tells.bounds.horizon.1

    pub respond_sound : (i : ℕ) (vs : List View) → Sound f (respond_of f ws i vs)
    respond_sound = best_sound f ws horizon_short

    pub storable : Storable (machine_of f ws)
    unfolding machine_of
    storable = record { shallow = depth_few; whole = λ i vs. sound_whole f (respond_of f ws i vs) (respond_sound i vs) }

    -- The checks of the floor with the walls that are lent.
    pub check_lent : (k : ℕ) → f.walls ≤ k → check_of f (take k ws) ≡ passed
    check_lent k l =
        let lent : f.walls ≤ length (take k ws) = omega (arith, length-take k ws, tells.lent) in
        check_same f (take k ws) f ws (lent_floor k l) lent tells.lent ∙ ok

    pub check_short : (k : ℕ) → k < f.walls → check_of f (take k ws) ≡ refused 9 0
    unfolding check_of lent_of long_enough
    check_short k l =
        then_passed tells.limited
        ∙ then_refused (places_of f (take k ws))
        (demand_refuses 9 0 (lt-leb f.walls (length (take k ws)) (omega (arith, length-take k ws))))
