-- `best` answers the best route, or none where there is none.
use Prim.Native.Nat.{ℕ, ◌≤◌}
use native.Mathlib.Omega.{arith}
use mathlib.Core.Bool.{Bool, true, false, ◌&&◌}
use mathlib.Core.List.{List}
use mathlib.Core.Logic.{◌⊎◌, inl, inr}
use mathlib.Core.Path.{◌≡◌, ◌∙◌}
use lib.Dec.{leb}
use borrow.Author.Tests.{leb-true, le-leb}
use Rattle.route.specs.Route.{cell_at, View, Task}
use Rattle.route.specs.Best.{Admissible, BestRoute, Best}
use Rattle.route.specs.Moves.{allowed, start_clear}
use Rattle.route.specs.Search.{Rule, val, walk_from, best}
use Rattle.laws.proofs.Tests.{true_or_false, true_false_absurd, and_both, and_fst, and_snd}
use Rattle.route.proofs.Ways.{Inside, way_same, held_last}
use Rattle.route.proofs.ValLaws.{val_least}
use Rattle.route.proofs.WalkLaws.{trail, trail_start, walked}
use Rattle.route.proofs.FirstLaws.{walk_first}
use Rattle.route.proofs.MovesLaws.{allowed_says}
use Rattle.route.proofs.AdmissibleLaws.{ByRule, admissible_by_rule}
use Rattle.route.proofs.Leads.{Leads, leads_same, leads_best}
use Rattle.route.proofs.WalkRoute.{route_length, route_at, route_blank}

-- The walk over any rule leads to a dock.
walk_leads : (cells : ℕ) (dock : ℕ → Bool) (H : ℕ) (ok : Rule) (c : ℕ) → Inside cells ok → val cells dock H ok c ≤ H →
    Leads dock H ok c (val cells dock H ok c) (trail cells dock H ok c)
walk_leads cells dock H ok c ins reached =
    record {
      way = (walked cells dock H ok c reached).way;
      held = (walked cells dock H ok c reached).held;
      least = λ r b w e h. rw e at (val_least cells dock H ok r b ins w h);
      first = λ r w e h. walk_first cells dock H ok c r ins w e h reached;
    }

module _ (task : Task) (vs : List View) where
  -- The rule of moves against the views.
  abbrev ok : Rule
  ok = allowed task vs

  -- The walk from the start, by beat.
  abbrev along : ℕ → ℕ
  along = trail task.cells task.dock task.horizon ok task.start

  -- The least arrival that the search finds.
  abbrev value : ℕ
  value = val task.cells task.dock task.horizon ok task.start

  -- The test of `best`.
  abbrev found : Bool
  found = start_clear task vs && leb value task.horizon

  allowed_inside : Inside task.cells ok
  allowed_inside t c d e = (allowed_says task vs t c d e).stands.inside

  walk_best : task.horizon ≤ 63 → start_clear task vs ≡ true → value ≤ task.horizon → BestRoute task vs (walk_from task ok)
  walk_best short clear reached = leads_best task vs (walk_from task ok) value rule (leads_same leads (route_at task ok))
    where
      leads : Leads task.dock task.horizon ok task.start value along
      leads = walk_leads task.cells task.dock task.horizon ok task.start allowed_inside reached

      rule : ByRule task vs (walk_from task ok)
      rule =
          record {
            long = route_length task ok short;
            starts = clear;
            begins = route_at task ok 0 (omega arith) ∙ trail_start task.cells task.dock task.horizon ok task.start;
            way = way_same leads.way (route_at task ok);
            blank = route_blank task ok;
          }

  -- Where a route is admissible, `best` finds one.
  admissible_found : (q : List ℕ) → Admissible task vs q → found ≡ true
  admissible_found q adm = and_both by.starts (le-leb value task.horizon (rw by.begins at least))
    where
      by : ByRule task vs q
      by = admissible_by_rule task vs q adm

      least : val task.cells task.dock task.horizon ok (cell_at q 0) ≤ task.horizon
      least =
          val_least task.cells task.dock task.horizon ok (cell_at q) task.horizon allowed_inside by.way held_last

  pub best_meets : task.horizon ≤ 63 → Best task vs (best task vs)
  unfolding best Best
  best_meets short = split (true_or_false found)
    where
      clear : found ≡ true → start_clear task vs ≡ true
      clear e = and_fst (start_clear task vs) (leb value task.horizon) e

      reached : found ≡ true → value ≤ task.horizon
      reached e = leb-true value task.horizon (and_snd (start_clear task vs) (leb value task.horizon) e)

      split : (found ≡ true) ⊎ (found ≡ false) → Best task vs (best task vs)
      split (inl e) = rw (e, best) (walk_best short (clear e) (reached e))
      split (inr e) = rw (e, best) (λ q adm. true_false_absurd (admissible_found q adm) e)
