-- `planner::plan` meets its contract: a refusal leaves all as it was; otherwise the plan over the free rows is the plan over the walls,
-- and the first record without a route is the failing carrier's.
use mathlib.Core.Path.{◌∙◌, ap}
use mathlib.Core.List.{List}
use lib.ListN.{length}
use borrow.Author.Rules.{rules}
use native.Mathlib.Omega.{arith}
use Rattle.floor.specs.Answers.{outcome_by}
use Rattle.floor.proofs.AnswersLaws.{met_passed, gives_next, gives_end, written_next, written_end}
use Rattle.laws.specs.Verdict.{value}
use Rattle.route.specs.Route.{Answer}
use Rattle.records.specs.Records.{stored}
use Rattle.planner.specs.Plan.{failing_of}
use Rattle.planner.specs.Answers.{failing_meant, plan_result}
use Rattle.planner.specs.Records.{plan_memory}
use Rattle.planner.proofs.ResultLaws.{plan_fails}
use Rattle.planner.proofs.RequestLaws.{PlanGranted, plan_granted, plannable, plan_same}
use Rattle.planner.proofs.plan.Goals as goal
use Rattle.planner.proofs.plan.Goals.{In_ok-request}

granted : (c : In_ok-request) → PlanGranted c.args.f c.args.walls.now (length c.args.answers.now)
granted c = plan_granted _ _ _ (met_passed c.in_ok-request.ensures)

pub returns-in_err-request-clause-answers : goal.returns-in_err-request-clause-answers
unfolding plan_result
returns-in_err-request-clause-answers c = gives_end failing_meant _ _ _ c.in_err-request.ensures c.from_residual.ensures.1

pub returns-in_err-request-clause-stores : goal.returns-in_err-request-clause-stores
unfolding plan_memory
returns-in_err-request-clause-stores c = written_end _ _ c.in_err-request.ensures (search rules)

pub free_rows-free-requires : goal.free_rows-free-requires
free_rows-free-requires c =
    let a = granted (goal.at.free_rows-free-requires c).In_ok-request in record {
      le_width = (a.bounds.width.0, a.bounds.width.1, a.bounds.height.1);
      walls_in_bounds = a.accepted.lent;
    }

pub plan_all-requires : goal.plan_all-requires
plan_all-requires c =
    plannable _ _ _ _ (granted (goal.at.plan_all-requires c).In_ok-request) c.free_rows-free.ensures

pub failing-requires : goal.failing-requires
failing-requires c =
    let a = granted (goal.at.failing-requires c).In_ok-request in
    (a.bounds.carriers.1, omega (arith, a.enough, c.plan_all.auto.answers))

pub returns : goal.returns
unfolding plan_result plan_memory outcome_by
returns c =
    let a = granted (goal.at.returns c).In_ok-request in
    let same = plan_same _ _ _ c.free_rows-free.ensures in
    let old = c.args.answers.now in record {
      answers = gives_next _ c.in_ok-request.ensures (ap value (c.failing.ensures.found ∙ plan_fails _ _ a.bounds.horizon.1 _ old _ c.plan_all.ensures
          ∙ ap failing_of same));
      stores = written_next _ c.in_ok-request.ensures (c.plan_all.ensures ∙ ap (λ (xs : List Answer). stored xs old) same);
      counted = c.failing.ensures.counted;
    }
