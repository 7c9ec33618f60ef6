-- `passes::docks::hold_from` meets its contract: the beats passed are in the free table, the one before them is not. Assumes nothing.
use Prim.Native.Nat.{ℕ}
use borrow.Author.Rules.{rules}
use Rattle.layers.specs.Table.{in_set}
use Rattle.passes.specs.Docks.{hold_of}
use Rattle.passes.proofs.HoldLaws.{held_is}
use Rattle.passes.proofs.docks.hold_from.Goals as goal

pub returns : goal.returns
unfolding hold_of
returns c =
    let e = c.held_from.ensures in
    held_is (λ (t : ℕ). in_set c.args.g c.args.table.now t c.args.dock) _ _ e.upto
    (λ t l h. let k = e.held t l h in search rules) (λ l. let k = e.before l in search rules)
