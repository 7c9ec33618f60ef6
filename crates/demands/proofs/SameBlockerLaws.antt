-- The set that shuts a carrier in depends only on the answers above and on the responses to views of the carriers above.
use Prim.Native.Nat.{ℕ, ◌-◌, ◌<◌}
use native.Mathlib.Omega.{arith}
use mathlib.Core.List.{List, map}
use mathlib.Core.Path.{◌≡◌, ◌∙◌, ap}
use lib.ListN.{length, take, length-map}
use lib.Seq.{length-take-le}
use Rattle.laws.specs.Verdict.{passed}
use Rattle.laws.proofs.VerdictLaws.{then_both}
use Rattle.floor.specs.declared.Floor.{Floor}
use Rattle.route.specs.Route.{Answer, View, heard}
use Rattle.planner.specs.Plan.{respond_of, plan_of}
use Rattle.planner.proofs.Theorems.{theorems as planner-theorems}
use Rattle.blockers.specs.Blockers.{left_after, set_of, answers_above, blockers_of}
use Rattle.blockers.specs.Entry.{blockers_verdict}
use Rattle.blockers.proofs.EntryLaws.{carrier_granted}
use Rattle.blockers.proofs.SameLaws.{left_same}

module _ (f : Floor) (ws : List ℕ) (f' : Floor) (ws' : List ℕ) (plans : plan_of f ws ≡ plan_of f' ws')
    (responses : (i : ℕ) (views : List View) → i < f.carriers → length views ≡ i → respond_of f ws i views ≡ respond_of f' ws' i views) where
  -- Of a carrier that is there.
  sets : (i : ℕ) → i < f.carriers → blockers_of f ws i ≡ blockers_of f' ws' i
  unfolding blockers_of answers_above
  sets i l =
      let xs = take i (plan_of f ws) in
      let count : length (map heard xs) ≡ i =
      length-map xs heard ∙ length-take-le i (plan_of f ws) (omega (arith, planner-theorems.answers_all f ws)) in
      ap set_of (left_same (respond_of f ws i) (respond_of f' ws' i) i (λ us e. responses i us l e) i (map heard xs) count)
      ∙ ap (λ (ys : List Answer). set_of (left_after (respond_of f' ws' i) i (map heard (take i ys)))) plans

  -- Where the entry does not refuse, the carrier is there.
  pub set_same : (carrier lent : ℕ) → blockers_verdict f ws carrier lent ≡ passed →
      blockers_of f ws (carrier - 1) ≡ blockers_of f' ws' (carrier - 1)
  unfolding blockers_verdict
  set_same carrier lent e =
      let listed = (carrier_granted f ws carrier lent (then_both _ _ e).0).listed in
      sets (carrier - 1) (omega (arith, listed))
