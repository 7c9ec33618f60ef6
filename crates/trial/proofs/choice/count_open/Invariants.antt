use Rattle.trial.specs.Inner.{opens_in}
use Rattle.trial.proofs.CountLaws.{PassingCounted}
use Rattle.trial.proofs.choice.count_open.Given as goal

abbrev pub invariant-loop-p : goal.invariant-loop-p
invariant-loop-p l = PassingCounted (opens_in l.s.floor l.s.memory.now) l.k l.p l.count
