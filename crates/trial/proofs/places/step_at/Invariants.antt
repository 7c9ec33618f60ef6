use Rattle.trial.proofs.StepLaws.{Behind}
use Rattle.trial.proofs.places.step_at.Given as goal

abbrev pub invariant-loop-j : goal.invariant-loop-j
invariant-loop-j l = Behind l.n l.p l.j l.d
