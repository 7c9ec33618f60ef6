-- `legality::places::neighbours` meets its contract: they are 1 apart.
use Rattle.legality.proofs.TestLaws.{side_by_side}
use Rattle.legality.proofs.places.neighbours.Goals as goal

pub returns : goal.returns
returns c = rw c.abs_diff.ensures (side_by_side c.args.k c.args.n)
