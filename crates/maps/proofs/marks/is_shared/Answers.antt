-- `maps::marks::is_shared` meets its contract: the marks are counted.
use native.Mathlib.Nat.{zero-add}
use mathlib.Core.Path.{ap, ◌∙◌}
use lib.Dec.{ltb}
use Rattle.maps.proofs.marks.is_shared.Goals as goal

pub returns : goal.returns
returns c =
    ap (ltb 1) (c.put_marks.ensures.behind ∙ zero-add _)
