-- `state::places::views_start` meets its contract: the views of carrier i end where those of the next begin.
use Prim.Native.Nat.{suc}
use Rattle.encoding.proofs.ExactLaws.{pairs_grow}
use Rattle.encoding.specs.Places.{view_place, state_size}
use Rattle.state.proofs.PlaceLaws.{pairs_next}
use native.Mathlib.Omega.{arith}
use Rattle.state.proofs.places.views_start.Goals as goal

pub returns : goal.returns
unfolding view_place state_size
returns c =
    let rise = pairs_grow c.args.n (suc c.args.i) c.requires.0 in
    let next = pairs_next c.args.i in
    omega arith
