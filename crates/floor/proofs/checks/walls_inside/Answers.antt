-- `floor::checks::walls_inside` meets its contract: the tests in their order.
use Prim.Native.Nat.{ℕ}
use lib.ListN.{get_or}
use borrow.Author.Rules.{rules}
use Rattle.floor.specs.Checks.{in_grid, walls_of}
use Rattle.floor.proofs.checks.walls_inside.Goals as goal

pub returns : goal.returns
unfolding walls_of
returns c = c.in_order.ensures (λ (j : ℕ). in_grid c.args.f (get_or c.args.walls.now j 0)) (λ i b l h. search rules)
