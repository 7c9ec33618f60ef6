-- What each case of the code's enums says in document 01's terms.
use Rattle.std.specs.Prelude.{Option, Some, None}
use Rattle.reference.specs.Step.{Step, plan, deliver}
use Rattle.reference.specs.Take.{StepAnswer, kept, sent, delivered}
use Rattle.reference.specs.Table.{Asked, step, no_step}
use Rattle.steps.specs.declared.Step.{Step as CodeStep}
use Rattle.steps.specs.declared.Step.TheVariants.{Plan, Deliver}
use Rattle.steps.specs.declared.Taken.{Taken}
use Rattle.steps.specs.declared.Taken.TheVariants.{Kept, Sent, Delivered}

-- A step.
unfoldable pub step_meant : CodeStep → Step
step_meant (Plan i) = plan i
step_meant (Deliver j i) = deliver j i

-- A step as it is asked for, or none where a number names no kind of step.
unfoldable pub asked_meant : Option CodeStep → Asked
asked_meant (Some s) = step (step_meant s)
asked_meant None = no_step

-- What a step that was taken answers.
unfoldable pub taken_meant : Taken → StepAnswer
taken_meant Kept = kept
taken_meant Sent = sent
taken_meant Delivered = delivered
