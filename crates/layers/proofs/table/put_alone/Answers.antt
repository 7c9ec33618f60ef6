-- `layers::table::put_alone` meets its contract: the set is emptied, then the cell joins. Assumes nothing.
use Rattle.layers.proofs.AloneLaws.{alone_made}
use Rattle.layers.proofs.table.put_alone.Goals as goal

pub returns : goal.returns
returns c =
    let none = c.put_none.ensures in
    let more = c.put_more.ensures in
    let both = alone_made _ _ _ _ _ _ none.only none.none more.only more.joined in
    record { only = both.0; alone = both.1 }
