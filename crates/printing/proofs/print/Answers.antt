-- `printing::print` meets its contract: a refusal leaves all as it was; otherwise the plan is stored and its text put.
use mathlib.Core.Path.{ap}
use borrow.Author.Rules.{rules}
use Rattle.floor.specs.Answers.{outcome_by}
use Rattle.floor.proofs.AnswersLaws.{met_passed, gives_next, gives_end, written_next, written_end}
use Rattle.laws.specs.Verdict.{value}
use Rattle.printing.specs.Print.{print_outcome, print_answers, print_memory}
use Rattle.printing.proofs.PrintLaws.{print_granted}
use Rattle.printing.proofs.print.Goals as goal

pub returns-in_err-request-clause-says : goal.returns-in_err-request-clause-says
unfolding print_outcome
returns-in_err-request-clause-says c = gives_end (λ n. n) _ _ _ c.in_err-request.ensures c.from_residual.ensures.1

pub returns-in_err-request-clause-plans : goal.returns-in_err-request-clause-plans
unfolding print_answers
returns-in_err-request-clause-plans c = written_end _ _ c.in_err-request.ensures (search rules)

pub returns-in_err-request-clause-stores : goal.returns-in_err-request-clause-stores
unfolding print_memory
returns-in_err-request-clause-stores c = written_end _ _ c.in_err-request.ensures (search rules)

pub put_plan-requires : goal.put_plan-requires
put_plan-requires c =
    let both = print_granted _ _ _ _ (met_passed c.in_ok-request.ensures) in
    record { answers_value = both.0; f_in_bounds = both.1 }

pub returns : goal.returns
unfolding outcome_by print_outcome print_answers print_memory
returns c =
    let p = c.put_plan.ensures in
    let ok = c.in_ok-request.ensures in record {
      says = gives_next _ ok (ap value p.puts.size);
      plans = written_next _ ok p.plans;
      stores = written_next _ ok p.puts.bytes;
    }
