use Rattle.positions.specs.Inner.{StandsIn}
use Rattle.positions.proofs.position.position_at.Given as goal

abbrev pub invariant-loop-k : goal.invariant-loop-k
invariant-loop-k l = StandsIn l.text l.k l.position
