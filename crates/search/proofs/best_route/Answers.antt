-- `search::best_route` meets its contract: the records as they are seen show the views as they are seen. Assumes nothing.
use Rattle.search.proofs.SearchLaws.{shown_best}
use mathlib.Core.Path.{◌∙◌}
use Rattle.search.proofs.best_route.Goals as goal

pub returns : goal.returns
returns c =
    c.best_against.ensures ∙ shown_best _ _ _ _ _ c.seen_records-shown.ensures.1
