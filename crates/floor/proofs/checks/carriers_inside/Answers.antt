-- `floor::checks::carriers_inside` meets its contract: the tests in their order.
use borrow.Author.Rules.{rules}
use Rattle.floor.specs.Checks.{carrier_in_grid, carriers_of}
use Rattle.floor.proofs.checks.carriers_inside.Goals as goal

pub returns : goal.returns
unfolding carriers_of
returns c = c.in_order.ensures (carrier_in_grid c.args.f) (λ i b l h. search rules)
