-- `steps::taking::plan_now` meets its contract: what the search found, stored with its tag, is the record of the best answer.
use Rattle.steps.proofs.TakeLaws.{plan_did}
use Rattle.steps.proofs.PlacedLaws.{placed_sized}
use mathlib.Core.Path.{◌∙◌, ap, refl}
use Rattle.steps.specs.Answers.{taken_meant}
use Rattle.records.specs.Records.{record_of}
use Rattle.steps.proofs.taking.plan_now.Goals as goal

pub record_plan-requires : goal.record_plan-requires
record_plan-requires c =
    let sized = placed_sized c.requires.workable.placed in
    (c.requires.i_lt_carriers, sized.0, sized.1)

pub returns-then-record_plan : goal.returns-then-record_plan
unfolding taken_meant
returns-then-record_plan c =
    plan_did _ _ _ _ _ _ _ _ (c.told-tag.ensures ∙ ap record_of c.find.ensures) c.record_plan.ensures.stores
    c.record_plan.ensures.answers (rw c.if-record_plan.true refl)

pub returns-else-record_plan : goal.returns-else-record_plan
unfolding taken_meant
returns-else-record_plan c =
    plan_did _ _ _ _ _ _ _ _ (c.told-tag.ensures ∙ ap record_of c.find.ensures) c.record_plan.ensures.stores
    c.record_plan.ensures.answers (rw c.if-record_plan.false refl)
