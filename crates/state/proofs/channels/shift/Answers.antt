-- `state::channels::shift` meets its contract: the records so far are moved up, and the last place is cleared.
use Rattle.state.proofs.RecordLaws.{moved_none, moved_more, shifted_is}
use native.Mathlib.Omega.{arith}
use mathlib.Core.Path.{refl}
use Rattle.state.proofs.channels.shift.Goals as goal

pub loop-p-init : goal.loop-p-init
loop-p-init c = moved_none _ _ _ refl

pub loop-p-preserved : goal.loop-p-preserved
loop-p-preserved c =
    moved_more _ _ _ _ _ _ _ c.loop-p.auto.p c.loop-p.invariant c.message_place.ensures.0 c.message_place-in-loop-p.ensures.0 c.copy.ensures

pub returns : goal.returns
returns c = shifted_is _ _ _ _ _ _ c.loop-p.invariant (omega arith) c.message_place-2.ensures.0 c.clear.ensures
