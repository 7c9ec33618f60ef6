-- `records::store_cells` meets its contract: what is copied is stored.
use lib.ListN.{length}
use mathlib.Core.Path.{◌≡◌}
use Rattle.records.proofs.LoadLaws.{stored_is}
use native.Mathlib.Omega.{arith}
use borrow.Author.Rules.{rules}
use Rattle.records.proofs.store_cells.Goals as goal

pub returns : goal.returns
returns c =
    let long : length c.args.cells ≡ 64 = search rules in
    (stored_is _ _ _ _ _ (omega arith) c.copy_from_slice.ensures.after, long)
