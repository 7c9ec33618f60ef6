-- `floor::checks::distinct` meets its contract: the tests in their order.
use borrow.Author.Rules.{rules}
use Rattle.floor.specs.Checks.{unshared, distinct_of}
use Rattle.floor.proofs.checks.distinct.Goals as goal

pub returns : goal.returns
unfolding distinct_of
returns c = c.in_order.ensures (unshared c.args.f) (λ i b l h. search rules)
