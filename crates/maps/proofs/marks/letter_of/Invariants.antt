use Prim.Native.Nat.{◌≤◌}
use mathlib.Core.Path.{◌≡◌}
use Rattle.maps.specs.Map.{shared_below}
use Rattle.maps.proofs.marks.letter_of.Given as goal

abbrev pub invariant-loop-d : goal.invariant-loop-d
invariant-loop-d l = (l.d ≤ l.c) × (l.shared ≤ l.d) × (l.shared ≡ shared_below l.f l.d)
