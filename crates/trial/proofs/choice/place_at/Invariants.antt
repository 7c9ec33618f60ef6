use Rattle.std.proofs.Common.{◌≤◌}
use Rattle.trial.specs.Inner.{opens_in}
use Rattle.trial.proofs.CountLaws.{PassingCounted}
use Rattle.trial.proofs.choice.place_at.Given as goal

abbrev pub invariant-loop-p : goal.invariant-loop-p
invariant-loop-p l = (l.before ≤ l.i) × PassingCounted (opens_in l.s.floor l.s.memory.now) l.all l.p l.before
