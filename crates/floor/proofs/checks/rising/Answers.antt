-- `floor::checks::rising` meets its contract: the tests in their order.
use borrow.Author.Rules.{rules}
use Rattle.floor.specs.Checks.{rises, rising_of}
use Rattle.floor.proofs.checks.rising.Goals as goal

pub returns : goal.returns
unfolding rising_of
returns c = c.in_order.ensures (rises c.args.walls.now) (λ i b l h. search rules)
