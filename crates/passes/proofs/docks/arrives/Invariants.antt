use Rattle.passes.specs.Docks.{arrivable_at}
use Rattle.passes.proofs.AnyLaws.{Untold}
use Rattle.passes.proofs.docks.arrives.Given as goal

abbrev pub invariant-loop-d : goal.invariant-loop-d
invariant-loop-d l = Untold (arrivable_at l.g l.sets l.ds l.t) l.n l.d
