use Rattle.laws.specs.Memory.{put}
use mathlib.Core.Path.{◌≡◌}
use Rattle.encoding.specs.Encode.{blocks, carrier_block}
use Rattle.reference.specs.State.{fresh}
use Rattle.state.proofs.start.write_carriers.Given as goal

abbrev pub invariant-loop-i : goal.invariant-loop-i
invariant-loop-i l = l.m ≡ put l.initial.m 2 (blocks l.i (carrier_block fresh))
