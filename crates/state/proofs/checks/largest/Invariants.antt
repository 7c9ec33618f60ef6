use Rattle.state.specs.Numbers.{Largest}
use Rattle.state.proofs.checks.largest.Given as goal

abbrev pub invariant-loop-x : goal.invariant-loop-x
invariant-loop-x l = Largest l.numbers l.x-index l.most
