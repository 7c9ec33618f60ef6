-- The claims of several docks, proved: what is claimed of tasks, said of the carriers of a floor.
use Prim.Native.Nat.{ℕ, ◌+◌, ◌-◌, ◌≤◌, ◌<◌}
use native.Mathlib.Omega.{arith}
use mathlib.Core.Bool.{true}
use mathlib.Core.Path.{◌≡◌, refl, sym, ◌∙◌, ap}
use mathlib.Core.Logic.{◌↔◌}
use mathlib.Core.List.{List, map}
use lib.Dec.{eqb}
use borrow.Author.Tests.{eqb-true}
use lib.ListN.{get_or, take}
use Rattle.laws.specs.Verdict.{passed, value}
use Rattle.floor.specs.declared.Floor.{Floor}
use Rattle.floor.specs.Checks.{check_of, is_dock}
use Rattle.floor.specs.Accepted.{SameDocks}
use Rattle.floor.specs.OneDock.{OneDockFloor, earlier_check, with_one_dock}
use Rattle.floor.proofs.LimitsLaws.{check_tells}
use Rattle.floor.proofs.OneDockLaws.{one_is_dock}
use Rattle.floor.proofs.Theorems.{theorems as floor-theorems}
use Rattle.route.specs.Route.{cell_at, Answer, none, route, View, heard}
use Rattle.route.specs.Best.{Best}
use Rattle.route.specs.Search.{best}
use Rattle.route.specs.Arrival.{arrival_of}
use Rattle.route.specs.Docks.{alone}
use Rattle.route.specs.OneGoal.{ArrivesAt, BestTo}
use Rattle.route.proofs.Theorems.{theorems as route-theorems}
use Rattle.records.specs.Records.{views_of}
use Rattle.records.specs.Seen.{seen}
use Rattle.search.specs.Task.{task_of}
use Rattle.search.specs.Search.{search_of}
use Rattle.search.proofs.Theorems.{theorems as search-theorems}
use Rattle.planner.specs.Plan.{respond_of, plan_of}
use Rattle.planner.specs.Claims.{answer_at, AgreeUpTo}
use Rattle.planner.specs.DocksClaims.{PrioritizedTo, DocksClaims}
use Rattle.planner.proofs.SequentialLaws.{plan_only}
use Rattle.planner.proofs.DependsLaws.{docks_agree, respond_same, plans_agree, searches_agree}
use Rattle.planner.proofs.Theorems.{theorems as plan-theorems}

-- A task's docks are those of its carrier.
task_docks : (f : Floor) (ws : List ℕ) (i c : ℕ) → (task_of f ws (i + 1)).dock c ≡ is_dock f i c
unfolding task_of
task_docks f ws i c = let e : i + 1 - 1 ≡ i = omega arith in ap (λ (k : ℕ). is_dock f k c) e

module _ (f : Floor) (ws : List ℕ) (ok : check_of f ws ≡ passed) (k : ℕ) (vs : List View) where
  short : (task_of f ws (k + 1)).horizon ≤ 63
  unfolding task_of
  short = (check_tells f ws ok).bounds.horizon.1

  responds : Best (task_of f ws (k + 1)) (seen f vs) (respond_of f ws k vs)
  unfolding respond_of
  responds = route-theorems.best_meets (task_of f ws (k + 1)) (seen f vs) short

  -- There is no other best answer.
  pub responds_only : (x : Answer) → Best (task_of f ws (k + 1)) (seen f vs) x → x ≡ respond_of f ws k vs
  responds_only x b = route-theorems.best_unique (task_of f ws (k + 1)) (seen f vs) x (respond_of f ws k vs) b responds

  none_each : (respond_of f ws k vs ≡ none) ↔ ((d : ℕ) → is_dock f k d ≡ true → best (alone (task_of f ws (k + 1)) d) (seen f vs) ≡ none)
  unfolding respond_of
  none_each =
      let each = route-theorems.none_alone (task_of f ws (k + 1)) (seen f vs) short in
      (λ e d h. each.0 e d (task_docks f ws k d ∙ h), λ h. each.1 (λ d g. h d (sym (task_docks f ws k d) ∙ g)))

  ends_at_dock : (r : List ℕ) → respond_of f ws k vs ≡ route r → is_dock f k (cell_at r f.horizon) ≡ true
  unfolding respond_of task_of
  ends_at_dock r e =
      sym (task_docks f ws k (cell_at r f.horizon))
      ∙ (route-theorems.best_is_route (task_of f ws (k + 1)) (seen f vs) r short e).0.ends

  own_dock : (r : List ℕ) → respond_of f ws k vs ≡ route r → best (alone (task_of f ws (k + 1)) (cell_at r f.horizon)) (seen f vs) ≡ route r
  unfolding respond_of task_of
  own_dock r e = route-theorems.own_dock_alone (task_of f ws (k + 1)) (seen f vs) r short e

  arrival_least : (r q : List ℕ) (d : ℕ) → respond_of f ws k vs ≡ route r → is_dock f k d ≡ true →
      best (alone (task_of f ws (k + 1)) d) (seen f vs) ≡ route q → arrival_of r f.horizon ≤ arrival_of q f.horizon
  unfolding respond_of task_of
  arrival_least r q d e h g =
      route-theorems.earliest_alone (task_of f ws (k + 1)) (seen f vs) r q d short e (task_docks f ws k d ∙ h) g

-- Document 01's floor with its goals as docks.
module _ (old : OneDockFloor) (ws : List ℕ) (ok : earlier_check old ws ≡ passed) where
  accepted : check_of (with_one_dock old) ws ≡ passed
  accepted = floor-theorems.earlier_accepted old ws ok

  few : old.carriers ≤ 8
  unfolding with_one_dock
  few = (check_tells (with_one_dock old) ws accepted).bounds.carriers.1

  -- The best answer is document 01's best answer to the goal; carriers count from 1 here, as in tasks.
  goal_task : (i : ℕ) → i - 1 < old.carriers → (vs : List View) (x : Answer) →
      Best (task_of (with_one_dock old) ws i) vs x ↔ BestTo (get_or old.goals (i - 1) 0) (task_of (with_one_dock old) ws i) vs x
  unfolding task_of
  goal_task i l vs x =
      route-theorems.one_dock (task_of (with_one_dock old) ws i) (get_or old.goals (i - 1) 0) vs x (λ c. one_is_dock old ws few (i - 1) c l)

  to_goal : (k : ℕ) → k < old.carriers → (vs : List View) (x : Answer) →
      Best (task_of (with_one_dock old) ws (k + 1)) vs x ↔ BestTo (get_or old.goals k 0) (task_of (with_one_dock old) ws (k + 1)) vs x
  to_goal k l vs x =
      let one : k + 1 - 1 ≡ k = omega arith in
      rw one at (goal_task (k + 1) (omega arith) vs x)

  earlier_response : (i : ℕ) (vs : List View) (x : Answer) → i < old.carriers →
      BestTo (get_or old.goals i 0) (task_of (with_one_dock old) ws (i + 1)) (seen (with_one_dock old) vs) x ↔
      (x ≡ respond_of (with_one_dock old) ws i vs)
  earlier_response i vs x l = (
    λ b. responds_only (with_one_dock old) ws accepted i vs x ((to_goal i l (seen (with_one_dock old) vs) x).1 b),
    λ q. rw q ((to_goal i l (seen (with_one_dock old) vs) (respond_of (with_one_dock old) ws i vs)).0
        (responds (with_one_dock old) ws accepted i vs)),
  )

  earlier_search : (i : ℕ) (m : List ℕ) (x : Answer) → search_of (with_one_dock old) ws i m ≡ value x →
      BestTo (get_or old.goals (i - 1) 0) (task_of (with_one_dock old) ws i) (seen (with_one_dock old) (views_of m i)) x
  unfolding with_one_dock
  earlier_search i m x s =
      let listed = ((search-theorems.answers_exactly (with_one_dock old) ws i m).0 (x, s)).listed in
      (goal_task i (omega (arith, listed.0, listed.1)) (seen (with_one_dock old) (views_of m i)) x).0
      (search-theorems.answers_best (with_one_dock old) ws i m x s)

  earlier_arrival : (i : ℕ) (vs : List View) (r : List ℕ) → i < old.carriers → respond_of (with_one_dock old) ws i vs ≡ route r →
      ArrivesAt (get_or old.goals i 0) old.horizon r (arrival_of r old.horizon)
  unfolding with_one_dock
  earlier_arrival i vs r l s =
      let last = cell_at r old.horizon in
      let there : eqb last (get_or old.goals i 0) ≡ true =
      sym (one_is_dock old ws few i last l) ∙ ends_at_dock (with_one_dock old) ws accepted i vs r s
      in
      (route-theorems.one_arrival (get_or old.goals i 0) old.horizon r (arrival_of r old.horizon)).1
      (refl, eqb-true last (get_or old.goals i 0) there)

  goals_planned : PrioritizedTo old ws (plan_of (with_one_dock old) ws)
  unfolding with_one_dock
  goals_planned =
      record {
        every = plan-theorems.answers_all (with_one_dock old) ws;
        best = λ k l.
            (to_goal k l (seen (with_one_dock old) (map heard (take k (plan_of (with_one_dock old) ws))))
            (answer_at (plan_of (with_one_dock old) ws) k)).0
            (plan-theorems.each_best (with_one_dock old) ws k accepted l);
      }

  earlier_plan : (xs : List Answer) → PrioritizedTo old ws xs ↔ (xs ≡ plan_of (with_one_dock old) ws)
  unfolding plan_of with_one_dock
  earlier_plan xs = (
    λ p. plan_only (respond_of (with_one_dock old) ws) old.carriers xs p.every
        (λ k l. (earlier_response k (map heard (take k xs)) (answer_at xs k) l).0 (p.best k l)),
    λ q. rw q goals_planned,
  )

-- The order of docks is nothing.
-- Floors that differ at most in the order of docks agree in all carriers.
agrees : (f f' : Floor) (ws : List ℕ) → SameDocks f f' → AgreeUpTo f.carriers f ws f' ws
agrees f f' ws same = docks_agree f ws f' ws same (λ j l. refl)

pub theorems : DocksClaims
theorems =
    record {
      earlier_plan = λ old ws xs ok. earlier_plan old ws ok xs;
      earlier_response = λ old ws i vs x ok l. earlier_response old ws ok i vs x l;
      earlier_search = λ old ws i m x ok. earlier_search old ws ok i m x;
      earlier_arrival = λ old ws i vs r ok l. earlier_arrival old ws ok i vs r l;
      order_plan = λ f f' ws same. plans_agree f ws f' ws (agrees f f' ws same) same.outline.carriers;
      order_response = λ f f' ws i vs same l h. respond_same f.carriers f ws f' ws (agrees f f' ws same) i vs l h;
      order_search = λ f f' ws i m same.
          searches_agree f ws f' ws (agrees f f' ws same) same.outline.carriers (floor-theorems.order_nothing f f' ws same) i m;
      none_each = λ f ws k vs ok. none_each f ws ok k vs;
      ends_at_dock = λ f ws k vs r ok. ends_at_dock f ws ok k vs r;
      own_dock = λ f ws k vs r ok. own_dock f ws ok k vs r;
      arrival_least = λ f ws k vs r q d ok. arrival_least f ws ok k vs r q d;
    }
