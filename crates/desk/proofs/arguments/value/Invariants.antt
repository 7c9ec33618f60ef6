use Prim.Native.Nat.{min}
use mathlib.Core.Path.{◌≡◌}
use Rattle.desk.specs.Arguments.{value_in}
use Rattle.desk.proofs.arguments.value.Given as goal

abbrev pub invariant-loop-byte : goal.invariant-loop-byte
invariant-loop-byte l = l.x ≡ min 4294967296 (value_in l.text l.byte-index)
