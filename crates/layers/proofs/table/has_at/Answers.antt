-- `layers::table::has_at` meets its contract. Assumes nothing.
use Rattle.layers.proofs.table.has_at.Goals as goal

pub returns : goal.returns
returns c =
    rw c.word.ensures.0 at c.has.ensures
