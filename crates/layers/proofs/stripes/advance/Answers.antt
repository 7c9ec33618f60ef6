-- `layers::stripes::advance` meets its contract: each of the eight stripes is the four lanes of a step. Assumes nothing.
use Rattle.layers.proofs.StripesLaws.{advanced}
use Rattle.layers.proofs.stripes.advance.Goals as goal

pub returns : goal.returns
returns c =
    advanced _ _ _ c.requires c.lanes.ensures c.lanes-2.ensures c.lanes-3.ensures c.lanes-4.ensures c.lanes-5.ensures
    c.lanes-6.ensures c.lanes-7.ensures c.lanes-8.ensures
