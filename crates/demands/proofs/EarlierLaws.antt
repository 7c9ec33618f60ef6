-- Responses by document 01's letter are those of the floor with one dock, so that every entry answers the same over them.
use Prim.Native.Nat.{ℕ, ◌<◌}
use native.Mathlib.Omega.{arith}
use mathlib.Core.List.{List, map}
use mathlib.Core.Path.{◌≡◌, ◌∙◌, ap}
use lib.ListN.{length, take, length-map}
use lib.Seq.{length-take-le}
use Rattle.laws.specs.Verdict.{passed}
use Rattle.floor.specs.OneDock.{OneDockFloor, earlier_check, with_one_dock}
use Rattle.route.specs.Route.{Answer, View, heard}
use Rattle.route.specs.Sequential.{sequential}
use Rattle.planner.specs.Plan.{respond_of, plan_of}
use Rattle.planner.proofs.FailingLaws.{plan_count}
use Rattle.planner.proofs.DependsLaws.{sequential_below}
use Rattle.planner.proofs.DocksTheorems.{theorems as docks-theorems}
use Rattle.blockers.specs.Blockers.{left_after, set_of, answers_above, blockers_of}
use Rattle.blockers.proofs.SameLaws.{left_same}
use Rattle.reference.proofs.RespondLaws.{reply_same, after_call_same}
use Rattle.encoding.specs.Places.{state_size}
use Rattle.encoding.specs.Calls.{machine_of}
use Rattle.demands.specs.Docks.{EarlierResponses, EarlierAnswers}
use Rattle.demands.proofs.SameTrialLaws.{trial_same}
use Rattle.demands.proofs.SameRunLaws.{runs_same, reports_same}

module _ (old : OneDockFloor) (ws : List ℕ) (respond : ℕ → List View → Answer) (ok : earlier_check old ws ≡ passed)
    (best : EarlierResponses old ws respond) where
  responses : (i : ℕ) (vs : List View) → i < old.carriers → length vs ≡ i → respond i vs ≡ respond_of (with_one_dock old) ws i vs
  responses i vs l h = (docks-theorems.earlier_response old ws i vs (respond i vs) ok l).0 (best i vs l h)

  plan : sequential respond old.carriers ≡ plan_of (with_one_dock old) ws
  unfolding plan_of with_one_dock
  plan = sequential_below respond (respond_of (with_one_dock old) ws) old.carriers responses

  blockers : (i : ℕ) → i < old.carriers →
      set_of (left_after (respond i) i (map heard (take i (sequential respond old.carriers)))) ≡ blockers_of (with_one_dock old) ws i
  unfolding blockers_of answers_above
  blockers i l =
      let xs = sequential respond old.carriers in
      let count : length (map heard (take i xs)) ≡ i =
      length-map (take i xs) heard ∙ length-take-le i xs (omega (arith, plan_count respond old.carriers)) in
      ap set_of
      (left_same (respond i) (respond_of (with_one_dock old) ws i) i (λ us h. responses i us l h) i (map heard (take i xs)) count)
      ∙ ap (λ (ys : List Answer). set_of (left_after (respond_of (with_one_dock old) ws i) i (map heard (take i ys)))) plan

  pub earlier_answers : EarlierAnswers old ws respond
  unfolding machine_of with_one_dock
  earlier_answers =
      let n = old.carriers in
      let d = old.depth in
      let k = state_size old.carriers in
      let q = respond_of (with_one_dock old) ws in
      record {
        call = reply_same n d k respond q responses;
        state = after_call_same n d k respond q responses;
        trials = trial_same n d k respond q responses;
        runs = runs_same n d k respond q responses;
        reports = reports_same n d k respond q responses;
        plan = plan;
        blockers = blockers;
      }
