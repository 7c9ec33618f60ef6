-- What a passed request tells: the floor is accepted, and every carrier can be planned.
use Prim.Native.Nat.{ℕ, zero, suc, ◌+◌, ◌*◌, ◌≤◌}
use native.Mathlib.Omega.{arith}
use mathlib.Core.Path.{◌≡◌, refl}
use mathlib.Core.List.{List, map}
use lib.ListN.{length}
use Rattle.floor.specs.declared.Floor.{Floor}
use Rattle.laws.specs.Verdict.{passed}
use Rattle.floor.specs.Accepted.{Accepted}
use Rattle.laws.proofs.VerdictLaws.{then_both}
use Rattle.floor.proofs.LimitsLaws.{Bounds, limited_bounds, length_passed}
use Rattle.floor.proofs.Theorems.{theorems}
use Rattle.route.specs.Route.{Answer, View, heard}
use Rattle.route.specs.Sequential.{sequential}
use Rattle.records.specs.Seen.{seen}
use Rattle.search.specs.Rows.{FreeRows}
use Rattle.search.proofs.RequestLaws.{accepted_searchable}
use Rattle.planner.specs.Plan.{plan_verdict, plan_of, respond_of, respond_with}
use Rattle.planner.specs.Answers.{Plannable}

-- What a passed request tells.
pub record PlanGranted (f : Floor) (ws : List ℕ) (table : ℕ) : Type 0 where
  pub accepted : Accepted f ws
  pub bounds : Bounds f
  pub enough : 65 * f.carriers ≤ table

pub plan_granted : (f : Floor) (ws : List ℕ) (table : ℕ) → plan_verdict f ws table ≡ passed → PlanGranted f ws table
unfolding plan_verdict
plan_granted f ws table h =
    let a = then_both _ _ h in
    let ok = (theorems.passes_exactly f ws).0 a.0 in
    record { accepted = ok; bounds = limited_bounds f ok.limited; enough = length_passed _ _ a.1 }

-- Every carrier of an accepted floor can be planned with its free rows.
pub plannable : (f : Floor) (ws rows m : List ℕ) → PlanGranted f ws (length m) → FreeRows f ws rows → Plannable f rows m
plannable f ws rows m a r =
    record {
      some = a.bounds.carriers.0;
      few = a.bounds.carriers.1;
      horizon = a.bounds.horizon.1;
      lent = a.enough;
      searchable = λ i views l s.
          accepted_searchable f ws (i + 1) views rows a.accepted (omega arith, omega arith) (omega arith) r;
    }

-- Responses that agree make the same plan.
sequential_same : (φ ψ : ℕ → List View → Answer) → ((k : ℕ) (vs : List View) → φ k vs ≡ ψ k vs) → (k : ℕ)
    → sequential φ k ≡ sequential ψ k
unfolding sequential
sequential_same φ ψ h zero = refl
sequential_same φ ψ h (suc k) = rw (sequential_same φ ψ h k, h k (map heard (sequential ψ k)))

-- The plan with the free rows is the plan with the walls.
pub plan_same : (f : Floor) (ws rows : List ℕ) → FreeRows f ws rows → sequential (respond_with f rows) f.carriers ≡ plan_of f ws
unfolding plan_of respond_of respond_with
plan_same f ws rows r = sequential_same (respond_with f rows) (respond_of f ws) (λ k vs. r.same (k + 1) (seen f vs)) f.carriers
