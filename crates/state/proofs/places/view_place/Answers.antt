-- `state::places::view_place` meets its contract: the number of the pair is below that of all pairs, so the view ends within the state.
use Rattle.encoding.specs.Places.{view_place, state_size}
use Rattle.encoding.proofs.ValidPartLaws.{pair_below}
use Rattle.state.proofs.PlaceLaws.{pairs_most}
use native.Mathlib.Omega.{arith}
use Rattle.state.proofs.places.view_place.Goals as goal

pub returns : goal.returns
unfolding view_place state_size
returns c =
    let pre = c.requires in
    let below = pair_below _ _ _ pre.0 pre.1 in
    let most = pairs_most _ pre.2 in
    omega arith
