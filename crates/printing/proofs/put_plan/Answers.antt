-- `printing::put_plan` meets its contract: the plan is made, and the text of its records is the text of its answers.
use Rattle.printing.specs.Print.{text_length}
use Rattle.printing.proofs.RecordLaws.{failing_small}
use Rattle.printing.proofs.PrintLaws.{bounds, enough, made_failing, never_refused, plan_put}
use native.Mathlib.Omega.{arith}
use mathlib.Core.Path.{◌∙◌}
use Rattle.printing.proofs.put_plan.Goals as goal

pub returns-in_default : goal.returns-in_default
returns-in_default c =
    absurd (never_refused _ _ _ c.requires.answers_value c.plan.ensures.answers c.in_default.is)

pub overflow_cast-unwrap_or : goal.overflow_cast-unwrap_or
overflow_cast-unwrap_or c =
    let b = bounds _ _ _ c.requires.answers_value in
    omega (
      arith,
      failing_small c.args.f c.args.walls.now b.carriers.1,
      c.unwrap_or.ensures,
      made_failing _ _ _ c.requires.answers_value _ _ c.plan.ensures.answers c.in-Ok.is,
    )

pub put_routes-requires : goal.put_routes-requires
unfolding text_length
put_routes-requires c =
    let p = c.requires in
    omega (arith, bounds _ _ _ p.answers_value, enough _ _ _ p.answers_value, c.plan.auto.answers, p.f_in_bounds)

pub returns : goal.returns
returns c =
    let both = plan_put _ _ _ _ _ _ _ _ c.requires.answers_value c.plan.ensures.stores
    (c.unwrap_or.ensures ∙ made_failing _ _ _ c.requires.answers_value _ _ c.plan.ensures.answers c.in-Ok.is)
    c.put_routes.ensures in
    record { plans = both.0; puts = both.1 }
