-- `state::places::channel_place` meets its contract: the number of the pair is below that of all pairs, so the channel ends within the
-- state.
use Rattle.encoding.specs.Places.{channel_place, state_size}
use Rattle.encoding.proofs.ValidPartLaws.{pair_below}
use native.Mathlib.Omega.{arith}
use Rattle.state.proofs.places.channel_place.Goals as goal

pub returns : goal.returns
unfolding channel_place state_size
returns c =
    let pre = c.requires in
    let below = pair_below _ _ _ pre.0 pre.1 in
    omega arith
