-- `maps::marks::is_among` meets its contract: the first k numbers are looked through.
use mathlib.Core.Path.{◌∙◌}
use Rattle.maps.proofs.MarkLaws.{any_among}
use Rattle.maps.proofs.marks.is_among.Goals as goal

pub returns : goal.returns
returns c = c.contains.ensures.value ∙ any_among c.args.xs.now c.args.c c.args.k c.requires
