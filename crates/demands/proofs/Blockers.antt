-- Who shuts a carrier in, proved.
use Prim.Native.Nat.{ℕ, ◌+◌, ◌-◌, ◌≤◌}
use native.Mathlib.Omega.{arith}
use mathlib.Core.Bool.{true}
use mathlib.Core.List.{List}
use mathlib.Core.Path.{◌≡◌, sym, ◌∙◌, ap}
use borrow.Author.Tests.{le-leb}
use lib.ListN.{length}
use Rattle.laws.specs.Verdict.{passed, value}
use Rattle.laws.proofs.VerdictLaws.{then_passed, demand_passes, gives_passed, when_passed_lem}
use Rattle.floor.specs.declared.Floor.{Floor}
use Rattle.floor.specs.Checks.{long_enough}
use Rattle.floor.proofs.LimitsLaws.{within_means}
use Rattle.route.specs.Route.{Answer, none}
use Rattle.planner.specs.Plan.{plan_of, plan_verdict}
use Rattle.planner.specs.Records.{plan_memory}
use Rattle.planner.specs.Claims.{answer_at}
use Rattle.lengths.specs.Figures.{lengths_of}
use Rattle.blockers.specs.Blockers.{blockers_of}
use Rattle.blockers.specs.Entry.{is_none, carrier_verdict, blockers_verdict, blockers_outcome, blockers_memory}
use Rattle.blockers.specs.Claims.{Stranded}
use Rattle.blockers.proofs.Theorems.{theorems as blockers-theorems}
use Rattle.demands.specs.Blockers.{TellsBlockers, Blockers}

is_none_lem : (x : Answer) → x ≡ none → is_none x ≡ true
unfolding is_none
is_none_lem x e = rw e

module _ (f : Floor) (ws : List ℕ) (i : ℕ) (m : List ℕ) (s : Stranded f ws i) (lent : (lengths_of f).answers ≤ length m) where
  back : i + 1 - 1 ≡ i
  back = omega arith

  planned : plan_verdict f ws (length m) ≡ passed
  unfolding lengths_of plan_verdict long_enough
  planned = then_passed s.accepted ∙ demand_passes 9 0 (le-leb _ _ lent)

  passes : blockers_verdict f ws (i + 1) (length m) ≡ passed
  unfolding blockers_verdict carrier_verdict
  passes =
      then_passed
      (then_passed planned ∙ demand_passes 7 0 ((within_means 1 f.carriers (i + 1)).1 (omega arith, omega (arith, s.listed))))
      ∙ demand_passes 16 0 (is_none_lem _ (ap (answer_at (plan_of f ws)) back ∙ s.has_none))

  tells : TellsBlockers f ws i m
  unfolding blockers_outcome blockers_memory plan_memory
  tells =
      record {
        set = gives_passed passes ∙ ap (λ (k : ℕ). value (blockers_of f ws k)) back;
        answers = when_passed_lem m passes ∙ sym (when_passed_lem m planned);
      }

pub theorem : Blockers
theorem =
    record {
      tells = tells;
      only_above = blockers-theorems.only_above;
      suffices = blockers-theorems.suffices;
      smallest = blockers-theorems.smallest;
      empty_exactly = blockers-theorems.empty_exactly;
      fewer_views = blockers-theorems.fewer_views;
    }
