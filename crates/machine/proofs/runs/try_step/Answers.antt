-- `machine::runs::try_step` meets its contract: an open step is taken, any other passed over.
use mathlib.Core.Path.{refl, sym, ◌∙◌}
use Rattle.encoding.specs.InnerSteps.{asked_open_in}
use Rattle.encoding.specs.InnerRuns.{asked_after_in}
use Rattle.steps.specs.Answers.{asked_meant}
use Rattle.steps.proofs.PlacedLaws.{placed_sized, rows_serve}
use Rattle.machine.specs.Inner.{took, skipped}
use Rattle.steps.proofs.OpenLaws.{open_of}
use Rattle.machine.proofs.runs.try_step.Goals as goal

pub is_open-requires : goal.is_open-requires
is_open-requires c = placed_sized c.requires.placed

pub take-requires-clause-rows_for : goal.take-requires-clause-rows_for
take-requires-clause-rows_for c = rows_serve _ c.requires.free

pub returns-in-Some : goal.returns-in-Some
unfolding asked_meant asked_open_in asked_after_in
returns-in-Some c =
    rw (← c.in-Some.ensures)
    (took (sym (open_of _ _ _ _) ∙ sym c.is_open.ensures ∙ c.if-is_open.true) refl c.take.ensures.stores)

pub returns-in_default : goal.returns-in_default
unfolding asked_meant asked_open_in
returns-in_default c =
    rw (← c.in-Some.ensures) (skipped (sym (open_of _ _ _ _) ∙ sym c.is_open.ensures ∙ c.if-is_open.false) refl refl)

pub returns-in_default-2 : goal.returns-in_default-2
unfolding asked_meant asked_open_in
returns-in_default-2 c = rw (← c.in_default.ensures) (skipped refl refl refl)
