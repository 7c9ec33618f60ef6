-- `floor::checks::all_unrepeated` meets its contract: the tests in their order.
use borrow.Author.Rules.{rules}
use Rattle.floor.specs.Checks.{unrepeated, unrepeated_of}
use Rattle.floor.proofs.checks.all_unrepeated.Goals as goal

pub returns : goal.returns
unfolding unrepeated_of
returns c = c.in_order.ensures (unrepeated c.args.f) (λ i b l h. search rules)
