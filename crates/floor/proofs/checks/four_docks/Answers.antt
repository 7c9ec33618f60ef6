-- `floor::checks::four_docks` meets its contract: the four numbers are the part of the list.
use Rattle.floor.specs.Checks.{docks_of}
use Rattle.floor.proofs.DockLaws.{four_part}
use lib.ListN.{length}
use mathlib.Core.Path.{◌≡◌}
use native.Mathlib.Omega.{arith}
use borrow.Author.Rules.{rules}
use Rattle.floor.proofs.checks.four_docks.Goals as goal

pub returns : goal.returns
unfolding docks_of
returns c =
    let e : length c.args.f.now.docks ≡ 32 = search rules in
    four_part _ _ (omega arith)
