-- `floor::checks::is_wall` meets its contract: what the library's search finds among numbers that rise.
use mathlib.Core.Path.{◌∙◌}
use Rattle.floor.proofs.WallSearchLaws.{search_says}
use Rattle.floor.proofs.checks.is_wall.Goals as goal

pub returns : goal.returns
returns c =
    c.is_ok.ensures.value
    ∙ search_says _ _ _ _ c.requires.k_in_bounds c.requires.strictly_rising c.binary_search.ensures.position
