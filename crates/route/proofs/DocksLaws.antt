-- Several docks against one: the best answer is that of one of its docks alone, and no dock alone has an earlier one.
use Prim.Native.Nat.{ℕ, ◌≤◌}
use mathlib.Core.Bool.{Bool, true}
use mathlib.Core.List.{List}
use mathlib.Core.Logic.{◌↔◌}
use mathlib.Core.Path.{◌≡◌, refl, ap, fun_ext}
use borrow.Author.Tests.{eqb-true, eq-eqb}
use Rattle.route.specs.Route.{cell_at, none, route, View, Task}
use Rattle.route.specs.Best.{Admissible, BestRoute}
use Rattle.route.specs.Arrival.{arrival_of}
use Rattle.route.specs.Docks.{with_docks, alone}
use Rattle.route.specs.Search.{best}
use Rattle.route.proofs.ArrivalLaws.{arrival_arrives}
use Rattle.route.proofs.Unique.{none_exactly, route_exactly}

module _ (task : Task) (vs : List View) where
  -- A route with its own last cell as the one dock.
  own_admissible : (q : List ℕ) → Admissible task vs q → Admissible (alone task (cell_at q task.horizon)) vs q
  own_admissible q adm =
      record {
        is_route = record {
          long = adm.is_route.long;
          begins = adm.is_route.begins;
          ends = eq-eqb (cell_at q task.horizon) (cell_at q task.horizon) refl;
          moves = adm.is_route.moves;
          inside = adm.is_route.inside;
          off_walls = adm.is_route.off_walls;
          blank = adm.is_route.blank;
        };
        clear = adm.clear;
      }

  -- A route to one of the docks alone.
  alone_admissible : (d : ℕ) (q : List ℕ) → task.dock d ≡ true → Admissible (alone task d) vs q → Admissible task vs q
  alone_admissible d q h adm =
      record {
        is_route = record {
          long = adm.is_route.long;
          begins = adm.is_route.begins;
          ends = rw (eqb-true (cell_at q task.horizon) d adm.is_route.ends) h;
          moves = adm.is_route.moves;
          inside = adm.is_route.inside;
          off_walls = adm.is_route.off_walls;
          blank = adm.is_route.blank;
        };
        clear = adm.clear;
      }

  own_best : (r : List ℕ) → BestRoute task vs r → BestRoute (alone task (cell_at r task.horizon)) vs r
  own_best r h =
      record {
        admissible = own_admissible r h.admissible;
        earliest = λ q a b adm. h.earliest q a b (whole q adm);
        first = λ q a adm. h.first q a (whole q adm);
      }
    where
      whole : (q : List ℕ) → Admissible (alone task (cell_at r task.horizon)) vs q → Admissible task vs q
      whole q adm = alone_admissible (cell_at r task.horizon) q h.admissible.is_route.ends adm

  pub own_dock_alone : (r : List ℕ) → task.horizon ≤ 63 → best task vs ≡ route r →
      best (alone task (cell_at r task.horizon)) vs ≡ route r
  own_dock_alone r short e =
      (route_exactly (alone task (cell_at r task.horizon)) vs r short).1 (own_best r ((route_exactly task vs r short).0 e))

  pub earliest_alone : (r q : List ℕ) (d : ℕ) → task.horizon ≤ 63 → best task vs ≡ route r → task.dock d ≡ true →
      best (alone task d) vs ≡ route q → arrival_of r task.horizon ≤ arrival_of q task.horizon
  earliest_alone r q d short er h eq =
      ((route_exactly task vs r short).0 er).earliest q (arrival_of r task.horizon) (arrival_of q task.horizon)
      (alone_admissible d q h ((route_exactly (alone task d) vs q short).0 eq).admissible) (arrival_arrives r task.horizon)
      (arrival_arrives q task.horizon)

  pub none_alone : task.horizon ≤ 63 → (best task vs ≡ none) ↔ ((d : ℕ) → task.dock d ≡ true → best (alone task d) vs ≡ none)
  none_alone short = (
    λ e d h. (none_exactly (alone task d) vs short).1 (λ q adm. (none_exactly task vs short).0 e q (alone_admissible d q h adm)),
    λ h. (none_exactly task vs short).1 (λ q adm. each h q adm),
  )
    where
      each : ((d : ℕ) → task.dock d ≡ true → best (alone task d) vs ≡ none) → (q : List ℕ) → Admissible task vs q → ⊥
      each h q adm =
          (none_exactly (alone task (cell_at q task.horizon)) vs short).0 (h (cell_at q task.horizon) adm.is_route.ends) q
          (own_admissible q adm)

  pub docks_only : (dock : ℕ → Bool) → ((c : ℕ) → task.dock c ≡ dock c) → best task vs ≡ best (with_docks task dock) vs
  docks_only dock h = ap (λ (φ : ℕ → Bool). best (with_docks task φ) vs) (fun_ext h)
