-- `layers::table::put_more` meets its contract: the digit at the place of the cell is added. Assumes nothing.
use Rattle.layers.proofs.AloneLaws.{more_made}
use Rattle.layers.proofs.table.put_more.Goals as goal

pub returns : goal.returns
returns c =
    let p = c.requires in
    let both = more_made _ _ _ _ _ _ p.0 p.1 p.2 p.3 c.place_of-p.ensures
    (rw c.word.ensures.0 at c.add.ensures) in
    record { only = both.0; joined = both.1 }
