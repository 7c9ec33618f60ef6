-- A search by sets of cells answers the best route, or none where there is none. By uniqueness it equals `best`.
use Prim.Native.Nat.{ℕ, zero, suc, ◌≤◌, ◌<◌}
use native.Mathlib.Omega.{arith}
use mathlib.Core.Bool.{true, false}
use mathlib.Core.List.{List}
use mathlib.Core.Path.{◌≡◌, refl}
use lib.ListN.{length}
use Rattle.route.specs.Route.{cell_at, none, route, View, Task}
use Rattle.route.specs.Best.{Admissible, BestRoute, Best}
use Rattle.route.specs.Moves.{near, standable, allowed, start_clear}
use Rattle.route.specs.Search.{best}
use Rattle.laws.proofs.Tests.{and_snd, true_false_absurd}
use Rattle.route.proofs.Ways.{held_last}
use Rattle.route.proofs.AdmissibleLaws.{ByRule, admissible_by_rule}
use Rattle.route.proofs.Leads.{Leads, leads_best}
use Rattle.route.proofs.Meets.{best_meets}
use Rattle.route.proofs.Unique.{best_unique}
use Rattle.route.proofs.Sets.{Sets, Forward, Reaches, Least, Backward, Greedy}
use Rattle.route.proofs.SetsLaws.{held_reaches, greedy_leads}

-- What a search by sets shows of a route r that it answers, with arrival a.
pub record Found (task : Task) (vs : List View) (F B : Sets) (a : ℕ) (r : List ℕ) : Type 0 where
  pub clear : start_clear task vs ≡ true
  pub forward : Forward (allowed task vs) task.start a F
  pub least : Least (allowed task vs) task.dock task.horizon F a
  pub backward : Backward (allowed task vs) task.dock task.horizon a F B
  pub greedy : Greedy (allowed task vs) task.start task.horizon a B (cell_at r)
  pub long : length r ≡ 64
  pub blank : (t : ℕ) → task.horizon < t → cell_at r t ≡ 0

-- What a search by sets shows where it answers none: no beat is an arrival.
pub record NotFound (task : Task) (vs : List View) (F : Sets) : Type 0 where
  pub forward : Forward (allowed task vs) task.start task.horizon F
  pub never : (b : ℕ) → b ≤ task.horizon → Reaches (allowed task vs) task.dock task.horizon F b → ⊥

module _ (task : Task) (vs : List View) where
  pub found_best_route : (F B : Sets) (a : ℕ) (r : List ℕ) → Found task vs F B a r → BestRoute task vs r
  found_best_route F B a r f = leads_best task vs r a rule leads
    where
      leads : Leads task.dock task.horizon (allowed task vs) task.start a (cell_at r)
      leads =
          greedy_leads (allowed task vs) task.start task.dock task.horizon a F B (cell_at r) f.forward f.least f.backward
          f.greedy

      rule : ByRule task vs r
      rule = record { long = f.long; starts = f.clear; begins = f.greedy.begins; way = leads.way; blank = f.blank }

  not_found_none : (F : Sets) → NotFound task vs F → (q : List ℕ) → Admissible task vs q → ⊥
  not_found_none F n q adm =
      n.never H (omega arith)
      (held_reaches (allowed task vs) task.start task.dock H H F (cell_at q) H n.forward by.way by.begins held_last
      (omega arith))
    where
      H : ℕ
      H = task.horizon

      by : ByRule task vs q
      by = admissible_by_rule task vs q adm

  -- The outcomes of a search, each equal to `best`.
  pub found_best : task.horizon ≤ 63 → (F B : Sets) (a : ℕ) (r : List ℕ) → Found task vs F B a r → best task vs ≡ route r
  unfolding Best
  found_best short F B a r f = best_unique task vs (best task vs) (route r) (best_meets task vs short) (found_best_route F B a r f)

  pub not_found_best : task.horizon ≤ 63 → (F : Sets) → NotFound task vs F → best task vs ≡ none
  unfolding Best
  not_found_best short F n = best_unique task vs (best task vs) none (best_meets task vs short) (not_found_none F n)

  pub start_taken_best : task.horizon ≤ 63 → start_clear task vs ≡ false → best task vs ≡ none
  unfolding Best
  start_taken_best short e =
      best_unique task vs (best task vs) none (best_meets task vs short)
      (λ q adm. true_false_absurd (admissible_by_rule task vs q adm).starts e)

  -- An admissible route stands on its last cell at the horizon.
  dock_stood : (H : ℕ) (q : List ℕ) → task.horizon ≡ H → ByRule task vs q → standable task vs H (cell_at q H) ≡ true
  unfolding start_clear allowed
  dock_stood zero q e by = rw by.begins by.starts
  dock_stood (suc t) q e by =
      and_snd (near task.width (cell_at q t) (cell_at q (suc t))) (standable task vs (suc t) (cell_at q (suc t)))
      (by.way.steps t (omega arith))

  -- Where no dock can be stood on at the horizon, there is no route.
  pub docks_shut_best : task.horizon ≤ 63 → ((d : ℕ) → task.dock d ≡ true → standable task vs task.horizon d ≡ false) →
      best task vs ≡ none
  unfolding Best
  docks_shut_best short shut =
      best_unique task vs (best task vs) none (best_meets task vs short)
      (λ q adm. true_false_absurd (dock_stood task.horizon q refl (admissible_by_rule task vs q adm))
      (shut (cell_at q task.horizon) adm.is_route.ends))
