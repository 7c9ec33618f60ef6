-- `floor::checks::clear` meets its contract: the tests in their order.
use borrow.Author.Rules.{rules}
use Rattle.floor.specs.Checks.{clear_of_walls, clear_of}
use Rattle.floor.proofs.checks.clear.Goals as goal

pub returns : goal.returns
unfolding clear_of
returns c = c.in_order.ensures (clear_of_walls c.args.f c.args.walls.now) (λ i b l h. search rules)
