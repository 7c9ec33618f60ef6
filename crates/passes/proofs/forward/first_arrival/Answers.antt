-- `passes::forward::first_arrival` meets its contract: the beats passed are arrivals, the one before them is none. Assumes nothing.
use borrow.Author.Rules.{rules}
use Rattle.passes.specs.Docks.{arrivable}
use Rattle.passes.proofs.HoldLaws.{held_is}
use Rattle.passes.proofs.forward.first_arrival.Goals as goal

pub returns : goal.returns
returns c =
    let e = c.held_from.ensures in
    held_is (arrivable c.args.g c.args.sets.now c.args.ds) _ _ e.upto
    (λ t l h. let k = e.held t l h in search rules) (λ l. let k = e.before l in search rules)
