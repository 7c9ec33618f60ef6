-- The claims, proved.
use Prim.Native.Nat.{ℕ, ◌≤◌}
use mathlib.Core.List.{List, Memᴰ}
use mathlib.Core.Logic.{inl, inr}
use mathlib.Core.Path.{◌≡◌, sym, ◌∙◌}
use Rattle.route.specs.Route.{cell_at, route, View, heard, Task}
use Rattle.route.specs.Conflict.{VertexConflict, ClearOfView, ClearOf, ShowsNoRoute}
use Rattle.route.specs.Best.{IsRoute, HeldFrom, Arrives, Admissible}
use Rattle.route.specs.Search.{best}
use Rattle.route.specs.Arrival.{arrival_of}
use Rattle.route.specs.Claims.{Claims}
use Rattle.route.proofs.ArrivalLaws.{arrival_arrives, arrives_arrival, arrival_within}
use Rattle.route.proofs.ConflictLaws.{tested}
use Rattle.route.proofs.Meets.{best_meets}
use Rattle.route.proofs.Unique.{best_unique, best_same_views, best_left_out, none_exactly, route_exactly}
use Rattle.route.proofs.DocksLaws.{none_alone, earliest_alone, own_dock_alone, docks_only}
use Rattle.route.proofs.OneGoalLaws.{one_dock, one_arrival}

answered : (task : Task) (vs : List View) (r : List ℕ) → task.horizon ≤ 63 → best task vs ≡ route r → Admissible task vs r
answered task vs r short e = ((route_exactly task vs r short).0 e).admissible

answered_route : (task : Task) (vs : List View) (r : List ℕ) → Admissible task vs r →
    IsRoute task r × Arrives task.horizon r (arrival_of r task.horizon)
answered_route task vs r adm = (adm.is_route, arrival_arrives r task.horizon)

silent_clear : (H : ℕ) (v : View) → ShowsNoRoute v → (r : List ℕ) → ClearOfView H r v
unfolding ShowsNoRoute ClearOfView
silent_clear H v (inl e) r = rw e tt
silent_clear H v (inr e) r = rw e tt

occupied : (task : Task) (vs : List View) (r q : List ℕ) (a t : ℕ) → Admissible task vs r → Memᴰ (heard (route q)) vs →
    HeldFrom task.horizon q a → a ≤ t → t ≤ task.horizon → cell_at r t ≡ cell_at q task.horizon → ⊥
unfolding ClearOf ClearOfView VertexConflict
occupied task vs r q a t adm m held l h e = (adm.clear (heard (route q)) m).no_vertex t h (e ∙ sym (held.held t l h))

pub theorems : Claims
theorems =
    record {
      best_meets = best_meets;
      none_exactly = none_exactly;
      best_unique = best_unique;
      best_is_route = λ task vs r short e. answered_route task vs r (answered task vs r short e);
      best_same_views = λ task vs vs' short. best_same_views task short vs vs';
      dock_occupied = λ task vs r q a t short m held e l h. occupied task vs r q a t (answered task vs r short e) m held l h;
      silent_left_out = λ task vs vs' v short silent. best_left_out task short vs vs' v (silent_clear task.horizon v silent);
      none_alone = none_alone;
      earliest_alone = earliest_alone;
      own_dock_alone = own_dock_alone;
      docks_only = λ task dock vs. docks_only task vs dock;
      one_dock = λ task goal vs x one. one_dock task goal vs one x;
      one_arrival = one_arrival;
      arrival_agrees = λ H r a. (λ h. arrives_arrival r H a h, λ e. rw e (arrival_arrives r H));
      arrival_within = λ H r. arrival_within r H;
      conflict_test = tested;
    }
