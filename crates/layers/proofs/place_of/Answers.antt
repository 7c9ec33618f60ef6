-- `layers::place_of` meets its contract: the row by the scale of the width, and what it leaves of the cell's number. Assumes nothing.
use mathlib.Core.Path.{refl}
use Rattle.layers.proofs.PlaceLaws.{place_made}
use Rattle.layers.proofs.place_of.Goals as goal

pub returns : goal.returns
returns c = place_made _ _ _ c.requires.0 c.requires.1 c.row_of-row.ensures.0 c.row_of-row.ensures.1 refl
