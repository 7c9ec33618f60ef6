-- `state::checks::channel_valid` meets its contract: the length first, then the four places.
use Rattle.state.proofs.EachLaws.{and_next, all_each}
use borrow.Author.Tests.{le-leb}
use borrow.Author.Rules.{rules}
use mathlib.Core.Path.{refl}
use Prim.Native.Nat.{◌+◌}
use lib.ListN.{get_or}
use Rattle.encoding.specs.Valid.{channel_valid, place_valid}
use Rattle.state.proofs.checks.channel_valid.Goals as goal

pub returns-then-count-s : goal.returns-then-count-s
unfolding channel_valid
returns-then-count-s c =
    and_next _ _ (le-leb _ _ c.if-count-s.true)
    (all_each 4 (place_valid c.args.s.now.floor c.args.s.now.memory.now (c.args.channel + 1) (get_or c.args.s.now.memory.now c.args.channel 0)) refl
    c.all.ensures.ran (λ x b q k. search rules))
