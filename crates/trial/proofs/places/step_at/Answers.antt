-- `trial::places::step_at` meets its contract: a plan, or the loop, which counts down the deliveries of the senders before.
use Rattle.steps.specs.Answers.{step_meant}
use Rattle.trial.proofs.StepLaws.{behind_start, behind_more, behind_end, plan_is}
use Rattle.trial.proofs.places.step_at.Goals as goal

pub returns-then-p-n : goal.returns-then-p-n
unfolding step_meant
returns-then-p-n c = plan_is _ _ c.requires.1 c.if-p-n.true

pub loop-j-init : goal.loop-j-init
loop-j-init c = behind_start _ _ c.requires.1 c.if-p-n.false

pub returns-then-d-below : goal.returns-then-d-below
unfolding step_meant
returns-then-d-below c = behind_end _ _ c.requires.1 _ _ c.loop-j.invariant c.if-d-below.true

pub loop-j-preserved : goal.loop-j-preserved
loop-j-preserved c = behind_more _ _ c.requires.1 _ _ c.loop-j.invariant c.if-d-below.false
