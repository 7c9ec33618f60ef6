-- `records::seen::parked` meets its contract: the cells through the last beat are the cell's, the others 0.
use borrow.Author.Rules.{rules}
use Rattle.records.proofs.SeenLaws.{park_end}
use Rattle.records.proofs.seen.parked.Goals as goal

pub returns : goal.returns
returns c = park_end _ _ _ c.requires (c.fill.ensures.after (search rules))
