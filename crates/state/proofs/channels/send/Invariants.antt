use mathlib.Core.List.{◌∷◌}
use mathlib.Core.Path.{◌≡◌}
use Rattle.encoding.specs.InnerSteps.{sent_to}
use Rattle.state.proofs.channels.send.Given as goal

abbrev pub invariant-loop-k : goal.invariant-loop-k
invariant-loop-k l = l.m ≡ sent_to l.n l.i (l.tag ∷ l.cells) l.initial.m l.k
