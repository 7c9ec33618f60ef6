-- The plan of a floor is the one list of answers that prioritized planning allows, and its memory shows it.
use Prim.Native.Nat.{ℕ, suc, ◌+◌, ◌*◌, ◌≤◌, ◌<◌}
use mathlib.Core.List.{List, ◌++◌, ◌∷◌, map}
use mathlib.Core.Logic.{◌↔◌}
use mathlib.Core.Path.{◌≡◌, refl, ◌∙◌}
use lib.ListN.{length, get_or, take}
use borrow.Author.Tests.{le-leb}
use Rattle.laws.specs.Memory.{put}
use Rattle.laws.specs.Verdict.{passed}
use Rattle.laws.proofs.VerdictLaws.{then_passed, demand_passes, when_passed_lem}
use Rattle.floor.specs.declared.Floor.{Floor}
use Rattle.floor.specs.Checks.{check_of, long_enough, start_of}
use Rattle.floor.proofs.LimitsLaws.{check_tells}
use Rattle.route.specs.Route.{cell_at, Answer, none, route, View, unheard, heard}
use Rattle.records.specs.Records.{records}
use Rattle.records.specs.Seen.{seen_from, seen}
use Rattle.route.specs.Best.{Admissible, Best}
use Rattle.route.specs.Search.{best}
use Rattle.route.proofs.Theorems.{theorems as route-theorems}
use Rattle.search.specs.Task.{task_of}
use Rattle.search.proofs.SeenLaws.{kept_off, unheard_out}
use Rattle.planner.specs.Plan.{respond_of, plan_of, plan_verdict}
use Rattle.records.specs.Records.{stored}
use Rattle.planner.specs.Records.{plan_memory}
use Rattle.planner.specs.Claims.{answer_at}
use Rattle.planner.proofs.PlanLaws.{respond_whole}
use Rattle.records.proofs.RecordLaws.{views_are}
use Rattle.planner.proofs.SequentialLaws.{plan_only}
use Rattle.planner.proofs.DocksTheorems.{responds_only}
use Rattle.planner.proofs.Theorems.{theorems as planner-theorems}
use Rattle.demands.specs.Demand2.{Prioritized}

module _ (f : Floor) (ws : List ℕ) (ok : check_of f ws ≡ passed) where
  short : (i : ℕ) → (task_of f ws i).horizon ≤ 63
  unfolding task_of
  short i = (check_tells f ws ok).bounds.horizon.1

  pub respond_best : (i : ℕ) (vs : List View) → Best (task_of f ws (i + 1)) (seen f vs) (respond_of f ws i vs)
  unfolding respond_of
  respond_best i vs = route-theorems.best_meets (task_of f ws (i + 1)) (seen f vs) (short (i + 1))

  -- None, once heard, keeps the response off the start of the carrier that told it.
  pub none_occupies : (i : ℕ) (vs : List View) (j t : ℕ) (r : List ℕ) → get_or vs j unheard ≡ heard none → respond_of f ws i vs ≡ route r →
      t ≤ f.horizon → cell_at r t ≡ start_of f j → ⊥
  unfolding respond_of task_of
  none_occupies i vs j t r e b = kept_off f (task_of f ws (i + 1)) vs j t r refl (check_tells f ws ok).bounds.horizon.1 e b

  -- Not heard may be left out.
  pub unheard_left_out : (i : ℕ) (vs vs' : List View) →
      Best (task_of f ws (i + 1)) (seen f vs ++ seen_from f (suc (length vs)) vs') (respond_of f ws i (vs ++ (unheard ∷ vs')))
  unfolding respond_of
  unheard_left_out i vs vs' =
      let others = seen f vs ++ seen_from f (suc (length vs)) vs' in
      rw (unheard_out f (task_of f ws (i + 1)) vs vs' (short (i + 1)))
      (route-theorems.best_meets (task_of f ws (i + 1)) others (short (i + 1)))

  plan_prioritized : Prioritized f ws (plan_of f ws)
  plan_prioritized = record { every = planner-theorems.answers_all f ws; best = λ k l. planner-theorems.each_best f ws k ok l }

  pub plan_exactly : (xs : List Answer) → Prioritized f ws xs ↔ (xs ≡ plan_of f ws)
  unfolding plan_of
  plan_exactly xs = (
    λ h. plan_only (respond_of f ws) f.carriers xs h.every
        (λ k l. responds_only f ws ok k (map heard (take k xs)) (answer_at xs k) (h.best k l)),
    λ e. rw e plan_prioritized,
  )

  -- The best answer is none exactly if no route is admissible.
  pub none_exactly : (k : ℕ) → k < f.carriers →
      (answer_at (plan_of f ws) k ≡ none)
      ↔ ((q : List ℕ) → Admissible (task_of f ws (k + 1)) (seen f (map heard (take k (plan_of f ws)))) q → ⊥)
  unfolding Best
  none_exactly k l =
      let b = planner-theorems.each_best f ws k ok l in (
        λ e.
            let n : Best (task_of f ws (k + 1)) (seen f (map heard (take k (plan_of f ws)))) none = rw e at b in
            n,
        λ h. route-theorems.best_unique (task_of f ws (k + 1)) (seen f (map heard (take k (plan_of f ws)))) _ none b h,
      )

  -- With memory for its answers a plan is made.
  pub granted : (lent : ℕ) → 65 * f.carriers ≤ lent → plan_verdict f ws lent ≡ passed
  unfolding plan_verdict long_enough
  granted lent l = then_passed ok ∙ demand_passes 9 0 (le-leb _ _ l)

  -- The memory of the plan shows its answers.
  pub stored_heard : (old : List ℕ) → 65 * f.carriers ≤ length old → records (plan_memory f ws old) f.carriers ≡ map heard (plan_of f ws)
  unfolding plan_memory plan_verdict stored put plan_of
  stored_heard old l =
      let h = (check_tells f ws ok).bounds.horizon.1 in
      views_are (respond_of f ws) (respond_whole f ws h) f.carriers _ _
      (when_passed_lem old (granted (length old) l))
