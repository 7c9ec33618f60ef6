-- `state::channels::send` meets its contract: after k carriers the memory is the one sent to the first k.
use Rattle.state.proofs.RecordLaws.{none_sent, send_more}
use mathlib.Core.Path.{◌∙◌, refl}
use native.Mathlib.Omega.{arith}
use Rattle.state.proofs.channels.send.Goals as goal

pub loop-k-init : goal.loop-k-init
loop-k-init c = none_sent _ _ _ _ _ (omega arith)

pub loop-k-preserved : goal.loop-k-preserved
loop-k-preserved c =
    send_more _ _ _ _ _ _ _ c.loop-k.auto.k c.loop-k.invariant (c.push.ensures ∙ rw c.channel_place.ensures.0 refl)
