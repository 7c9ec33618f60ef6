use Prim.Native.Nat.{◌-◌}
use mathlib.Core.Path.{◌≡◌}
use Rattle.state.proofs.RecordLaws.{moved_up}
use Rattle.state.proofs.channels.shift.Given as goal

abbrev pub invariant-loop-p : goal.invariant-loop-p
invariant-loop-p l = l.m ≡ moved_up l.initial.m l.channel (l.p - 1)
