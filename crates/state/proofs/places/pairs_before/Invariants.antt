use mathlib.Core.Path.{◌≡◌}
use Rattle.encoding.specs.Places.{pairs_before}
use Rattle.state.proofs.places.pairs_before.Given as goal

abbrev pub invariant-loop-k : goal.invariant-loop-k
invariant-loop-k l = l.p ≡ pairs_before l.k
