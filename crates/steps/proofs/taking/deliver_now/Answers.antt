-- `steps::taking::deliver_now` meets its contract: the oldest message becomes the view and leaves its channel, the receiver becomes due.
use Rattle.encoding.specs.Places.{state_size}
use borrow.Author.Rules.{rules}
use borrow.Author.Rules.{rules}
use Rattle.steps.proofs.TakeLaws.{delivery_stored}
use Rattle.steps.proofs.taking.deliver_now.Goals as goal

pub returns : goal.returns
returns c =
    delivery_stored _ _ _ _ _ _ _ _ _ _ c.message_place-oldest.ensures.0
    c.view_place-view.ensures.0 c.channel_place-channel.ensures.0
    c.copy.ensures c.pop.ensures c.set_due.ensures

pub set_due-requires : goal.set_due-requires
unfolding state_size
set_due-requires c = search rules
