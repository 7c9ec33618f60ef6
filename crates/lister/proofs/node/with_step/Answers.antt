-- `lister::node::with_step` meets its contract: two numbers, one after the other.
use lib.ListN.{length-set}
use Rattle.lister.proofs.LineLaws.{two_more}
use borrow.Author.Rules.{rules}
use Rattle.lister.proofs.node.with_step.Goals as goal

pub returns : goal.returns
returns c =
    (two_more _ _ _ _ (search rules) c.requires, simp length-set (search rules))
