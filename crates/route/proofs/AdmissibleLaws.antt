-- A route is admissible exactly if it starts clear, takes allowed moves to a dock, and is blank after the horizon.
use Prim.Native.Nat.{ℕ, zero, suc, ◌≤◌, ◌<◌}
use native.Mathlib.Omega.{arith}
use mathlib.Core.Bool.{true}
use mathlib.Core.List.{List, Memᴰ}
use mathlib.Core.Path.{◌≡◌, refl}
use lib.ListN.{length}
use Rattle.route.specs.Route.{cell_at, none, route, View, unheard, heard, Task}
use Rattle.route.specs.Conflict.{ClearOfView, ClearOf}
use Rattle.route.specs.Spaced.{Spaced}
use Rattle.route.specs.Best.{Admissible}
use Rattle.route.specs.Moves.{allowed, start_clear}
use Rattle.route.proofs.Ways.{Way}
use Rattle.route.proofs.SpacedLaws.{free_spaced, spaced_free}
use Rattle.route.proofs.MovesLaws.{Vacant, Standable, Allowed, allowed_says, allowed_holds, start_clear_says, start_clear_holds}

-- r by the rule of moves.
pub record ByRule (task : Task) (vs : List View) (r : List ℕ) : Type 0 where
  pub long : length r ≡ 64
  pub starts : start_clear task vs ≡ true
  pub begins : cell_at r 0 ≡ task.start
  pub way : Way task.dock task.horizon (allowed task vs) (cell_at r)
  pub blank : (t : ℕ) → task.horizon < t → cell_at r t ≡ 0

module _ (task : Task) (vs : List View) (r : List ℕ) where
  clear_route : Admissible task vs r → (q : List ℕ) → Memᴰ (heard (route q)) vs → Spaced task.horizon r q
  unfolding ClearOf ClearOfView
  clear_route a q m = free_spaced task.horizon r q (a.clear (heard (route q)) m)

  spaced_vacant : (q : List ℕ) → Spaced task.horizon r q → (t : ℕ) → t ≤ task.horizon → Vacant task.horizon t (cell_at r t) q
  spaced_vacant q p t h = record { now = p.at_once t h; next = p.before t; past = past }
    where
      past : (u : ℕ) → t ≡ suc u → cell_at r t ≡ cell_at q u → ⊥
      past u s e = p.behind u (omega arith) (rw s at e)

  vacant_spaced : (q : List ℕ) → ((t : ℕ) → t ≤ task.horizon → Vacant task.horizon t (cell_at r t) q) → Spaced task.horizon r q
  vacant_spaced q v =
      record {
        at_once = λ t h. (v t h).now;
        behind = λ t l. (v (suc t) l).past t refl;
        before = λ t l. (v t (omega arith)).next l;
      }

  pub admissible_by_rule : Admissible task vs r → ByRule task vs r
  admissible_by_rule a =
      record {
        long = a.is_route.long;
        starts = start_clear_holds task vs (rw a.is_route.begins at (stands 0 (omega arith)));
        begins = a.is_route.begins;
        way = record { steps = λ t h. allowed_holds task vs t (cell_at r t) (cell_at r (suc t)) (step t h); ends = a.is_route.ends };
        blank = a.is_route.blank;
      }
    where
      stands : (t : ℕ) → t ≤ task.horizon → Standable task vs t (cell_at r t)
      stands t h =
          record {
            inside = a.is_route.inside t h;
            off_wall = a.is_route.off_walls t h;
            clear = λ q m. spaced_vacant q (clear_route a q m) t h;
          }

      step : (t : ℕ) → t < task.horizon → Allowed task vs t (cell_at r t) (cell_at r (suc t))
      step t h = record { beside = a.is_route.moves t h; stands = stands (suc t) h }

  pub by_rule_admissible : ByRule task vs r → Admissible task vs r
  unfolding ClearOf ClearOfView
  by_rule_admissible b =
      record {
        is_route = record {
          long = b.long;
          begins = b.begins;
          ends = b.way.ends;
          moves = λ t h. (step t h).beside;
          inside = λ t h. (stands t h).inside;
          off_walls = λ t h. (stands t h).off_wall;
          blank = b.blank;
        };
        clear = clear;
      }
    where
      starts : Standable task vs 0 task.start
      starts = start_clear_says task vs b.starts

      step : (t : ℕ) → t < task.horizon → Allowed task vs t (cell_at r t) (cell_at r (suc t))
      step t h = allowed_says task vs t (cell_at r t) (cell_at r (suc t)) (b.way.steps t h)

      stands : (t : ℕ) → t ≤ task.horizon → Standable task vs t (cell_at r t)
      stands zero h = rw b.begins starts
      stands (suc t) h = (step t h).stands

      clear : (v : View) → Memᴰ v vs → ClearOfView task.horizon r v
      clear unheard m = tt
      clear (heard none) m = tt
      clear (heard (route q)) m = spaced_free task.horizon r q (vacant_spaced q (λ t h. (stands t h).clear q m))
