-- `layers::table::member` meets its contract. The digit at the place of the cell is read. Assumes nothing.
use Rattle.layers.proofs.PlaceLaws.{member_made}
use Rattle.layers.proofs.table.member.Goals as goal

pub returns : goal.returns
returns c =
    member_made _ _ _ _ _ _ c.requires.3 c.place_of-p.ensures c.has_at.ensures
