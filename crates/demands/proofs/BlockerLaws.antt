-- The rows of the entry that tells who shuts a carrier in, and its memory: kept with a refusal, and never written beyond its needed length.
use Prim.Native.Nat.{ℕ, ◌*◌, ◌-◌, ◌≤◌}
use native.Mathlib.Omega.{arith}
use mathlib.Core.Bool.{false}
use mathlib.Core.List.{List}
use mathlib.Core.Path.{◌≡◌, refl}
use lib.ListN.{length}
use Rattle.laws.specs.Verdict.{passed}
use Rattle.laws.proofs.PutLaws.{put_beyond}
use Rattle.laws.proofs.VerdictLaws.{then_both}
use Rattle.floor.specs.declared.Floor.{Floor}
use Rattle.floor.proofs.LimitsLaws.{check_tells}
use Rattle.route.specs.Route.{Answer, none, route}
use Rattle.records.specs.Records.{records_of, stored}
use Rattle.planner.specs.Plan.{plan_of, plan_verdict}
use Rattle.planner.specs.Claims.{answer_at}
use Rattle.planner.proofs.ResultLaws.{plan_size}
use Rattle.lengths.specs.Figures.{lengths_of}
use Rattle.blockers.specs.Entry.{is_none, carrier_verdict, blockers_verdict, blockers_outcome, blockers_memory}
use Rattle.demands.specs.Rows.{Refuses, Answers, Keeps}
use Rattle.demands.specs.Demand1.{SearchRows, BlockersRows}
use Rattle.demands.proofs.RowLaws.{then_rows, gives_rows, demand_row, keeps_when}
use Rattle.demands.proofs.EntryLaws.{lent_rows, outside_row}

-- The test of an answer means that it is not none.
test_says : (x : Answer) → is_none x ≡ false → x ≡ none → ⊥
unfolding is_none
test_says none e h = let z : ◌≡◌ {A = ℕ} 0 1 = cc in omega arith
test_says (route r) e h = let z : ◌≡◌ {A = ℕ} 0 1 = cc in omega arith

test_holds : (x : Answer) → (x ≡ none → ⊥) → is_none x ≡ false
unfolding is_none
test_holds none h = absurd (h refl)
test_holds (route r) h = refl

module _ (f : Floor) (ws : List ℕ) where
  carrier_rows : (carrier lent : ℕ) → Refuses (carrier_verdict f ws carrier lent) (SearchRows f ws carrier lent)
  unfolding carrier_verdict plan_verdict lengths_of
  carrier_rows carrier lent = then_rows _ _ (lent_rows f ws (65 * f.carriers) lent) (λ e. outside_row 1 f.carriers carrier 7 0)

  blockers_rows : (carrier lent : ℕ) → Refuses (blockers_verdict f ws carrier lent) (BlockersRows f ws carrier lent)
  unfolding blockers_verdict
  blockers_rows carrier lent =
      let x = answer_at (plan_of f ws) (carrier - 1) in
      then_rows _ _ (carrier_rows carrier lent) (λ e. demand_row (is_none x) 16 0 (test_says x, test_holds x))

  pub blockers : (carrier lent : ℕ) → Answers (blockers_outcome f ws carrier lent) (BlockersRows f ws carrier lent)
  unfolding blockers_outcome
  blockers carrier lent = gives_rows (blockers_verdict f ws carrier lent) _ (blockers_rows carrier lent)

  -- The answers of a floor that is not refused have the needed length.
  answers_long : (carrier lent : ℕ) → blockers_verdict f ws carrier lent ≡ passed → length (records_of (plan_of f ws)) ≤ 65 * f.carriers
  unfolding blockers_verdict carrier_verdict plan_verdict
  answers_long carrier lent e =
      let ok = (then_both _ _ (then_both _ _ (then_both _ _ e).0).0).0 in
      omega (arith, plan_size f ws (check_tells f ws ok).bounds.horizon.1)

  pub blockers_keeps : (carrier : ℕ) (old : List ℕ) →
      Keeps (BlockersRows f ws carrier (length old)) (lengths_of f).answers old (blockers_memory f ws carrier old)
  unfolding blockers_memory lengths_of stored
  blockers_keeps carrier old =
      keeps_when _ (blockers_verdict f ws carrier (length old)) (blockers_rows carrier (length old))
      (λ e. put_beyond old (records_of (plan_of f ws)) (65 * f.carriers) (answers_long carrier (length old) e))
