use Rattle.layers.specs.Step.{ChangedAt}
use Rattle.passes.specs.Docks.{EndsAt}
use Rattle.passes.proofs.docks.put_docks.Given as goal

abbrev pub invariant-loop-d : goal.invariant-loop-d
invariant-loop-d l = ChangedAt l.g l.initial.sets l.a l.sets × EndsAt l.g l.sets l.ds l.a l.d
