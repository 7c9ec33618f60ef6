-- `layers::table::put_none` meets its contract: the rows of the beat are emptied. Assumes nothing.
use Prim.Native.Nat.{◌+◌, ◌-◌, ◌*◌}
use mathlib.Core.Path.{◌≡◌}
use borrow.Author.Rules.{rules}
use Rattle.layers.proofs.AloneLaws.{none_made}
use Rattle.layers.proofs.RewriteLaws.{rewritten_zeros, zeros_filled}
use native.Mathlib.Omega.{arith}
use Rattle.layers.proofs.table.put_none.Goals as goal

pub returns : goal.returns
returns c =
    let p = c.requires in
    let size : (c.args.t + 1) * 32 - c.args.t * 32 ≡ 32 = omega arith in
    let filled = zeros_filled _ _ _ _ (omega (arith, p.1.long)) size (c.fill.ensures.after (search rules)) in
    let both = none_made _ _ _ _ p.0 p.1 p.2 (rewritten_zeros _ _ _ (omega (arith, p.1.long)) filled) in
    record { only = both.0; none = both.1 }
