-- Demand 2, proved.
use Prim.Native.Nat.{ℕ}
use mathlib.Core.Bool.{true}
use mathlib.Core.List.{List}
use mathlib.Core.Logic.{◌↔◌}
use mathlib.Core.Path.{◌≡◌}
use Rattle.laws.proofs.VerdictLaws.{gives_passed}
use Rattle.floor.specs.declared.Floor.{Floor}
use Rattle.floor.specs.Accepted.{Absent}
use Rattle.floor.proofs.CheckMeans.{absent_means}
use Rattle.route.proofs.Theorems.{theorems as route-theorems}
use Rattle.search.specs.Task.{task_of}
use Rattle.search.proofs.Theorems.{theorems as search-theorems}
use Rattle.legality.proofs.Theorems.{theorems as legality-theorems}
use Rattle.planner.specs.Answers.{plan_result}
use Rattle.planner.proofs.Theorems.{theorems as planner-theorems}
use Rattle.printing.proofs.Theorems.{theorems as printing-theorems}
use Rattle.demands.specs.Demand2.{Demand2}
use Rattle.demands.proofs.PlanLaws.{plan_exactly, respond_best, none_exactly, none_occupies, unheard_left_out}
use Rattle.demands.proofs.PlanLaws.{stored_heard, granted}
use Rattle.demands.proofs.SameSheetLaws.{same_answers}
use Rattle.demands.proofs.RoundTripLaws.{floor_returns, sheet_returns}

free_exactly : (f : Floor) (ws : List ℕ) (i c : ℕ) → ((task_of f ws i).free c ≡ true) ↔ Absent ws f.walls c
unfolding task_of
free_exactly f ws i c = absent_means ws f.walls c

pub theorem : Demand2
unfolding plan_result
theorem =
    record {
      plan_exactly = λ f ws xs ok. plan_exactly f ws ok xs;
      respond_best = λ f ws i vs ok. respond_best f ws ok i vs;
      best_unique = route-theorems.best_unique;
      free_exactly = free_exactly;
      search_best = search-theorems.answers_best;
      none_exactly = λ f ws k ok l. none_exactly f ws ok k l;
      none_occupies = λ f ws i vs j t r ok. none_occupies f ws ok i vs j t r;
      unheard_left_out = λ f ws i vs us ok. unheard_left_out f ws ok i vs us;
      stranded_avoided = planner-theorems.stranded_avoided;
      unstranded_best = planner-theorems.unstranded_best;
      stored_heard = λ f ws old ok l. stored_heard f ws ok old l;
      failing = λ f ws lent ok l. gives_passed (granted f ws ok lent l);
      failing_first = planner-theorems.failing_first;
      failing_none = planner-theorems.failing_none;
      printed = printing-theorems.routes_accepted;
      printed_refusal = printing-theorems.routes_refused;
      arrival_exactly = route-theorems.arrival_agrees;
      floor_returns = floor_returns;
      sheet_returns = sheet_returns;
      conflict_test = route-theorems.conflict_test;
      plan_free = λ f ws j k r q ok l h e g.
          (route-theorems.conflict_test f.horizon r q).free_exactly.1 (planner-theorems.conflict_free f ws j k r q ok l h e g);
      record_route = legality-theorems.legal_exactly;
      record_none = legality-theorems.none_exactly;
      record_unheard = legality-theorems.unheard_exactly;
      record_wrong = legality-theorems.wrong_exactly;
      found_legal = legality-theorems.found_legal;
      same_floor = λ f ws f' ws' same lent lent'. same_answers f ws f' ws' same lent lent';
    }
