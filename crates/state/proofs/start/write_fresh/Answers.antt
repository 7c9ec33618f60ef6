-- `state::start::write_fresh` meets its contract: the count, the carriers and zeros are the fresh state.
use Rattle.state.proofs.FreshLaws.{zeros_front, zeros_mid, fresh_whole}
use Rattle.encoding.specs.Places.{state_size}
use lib.ListN.{length-append}
use Prim.Native.Nat.{ℕ}
use native.Mathlib.Omega.{arith}
use Rattle.state.proofs.start.write_fresh.Goals as goal

pub returns : goal.returns
unfolding state_size
returns c =
    fresh_whole _ _ _ _ _ _ _ c.requires.1
    (zeros_front _ _ 2 (omega arith) (c.fill.ensures.after (λ y e. e)))
    c.write_carriers.ensures c.carrier_place.ensures c.state_size.ensures.0
    (zeros_mid _ _ _ _ (omega (arith, c.write_carriers.auto.m, length-append {A = ℕ})) (c.fill-2.ensures.after (λ y e. e)))
