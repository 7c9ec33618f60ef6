-- `passes::docks::put_dock` meets its contract. A dock that can be held joins, another leaves the set as it is. Assumes nothing.
use Rattle.passes.proofs.EndsLaws.{ends_more, ends_same}
use Rattle.passes.proofs.docks.put_dock.Goals as goal

pub returns-then-ds-d-clause-more : goal.returns-then-ds-d-clause-more
returns-then-ds-d-clause-more c = λ ends. ends_more _ _ _ _ _ _ ends c.if-ds-d.true c.put_more.ensures.joined

pub returns-else-ds-d-clause-more : goal.returns-else-ds-d-clause-more
returns-else-ds-d-clause-more c = λ ends. ends_same _ _ _ _ _ c.if-ds-d.false ends
