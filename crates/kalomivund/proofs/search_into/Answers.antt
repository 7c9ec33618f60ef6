-- `kalomivund::search_into` meets its contract: case by case, the route copied where the search is answered.
use mathlib.Core.Path.{refl}
use Rattle.floor.specs.Answers.{outcome_by}
use Rattle.laws.specs.Memory.{put}
use Rattle.abi.specs.Word.{map_outcome}
use Rattle.kalomivund.specs.Answers.{of_search, answer_done, cells_of, route_stored}
use Rattle.kalomivund.proofs.search_into.Goals as goal

pub returns-in-Ok-None : goal.returns-in-Ok-None
unfolding of_search map_outcome answer_done outcome_by route_stored cells_of put
returns-in-Ok-None c = rw (← c.in-Ok-None.ensures, c.in-Ok-None.field-0-is) (record { says = c.done.ensures; stores = c.copy.ensures })

pub returns-in-Ok-Some : goal.returns-in-Ok-Some
unfolding of_search map_outcome answer_done outcome_by route_stored cells_of put
returns-in-Ok-Some c =
    rw (← c.in-Ok-Some.ensures, c.in-Ok-Some.field-0-is) (record { says = c.done-in-Ok-Some.ensures; stores = c.copy-in-Ok-Some.ensures })

pub returns-in-Err : goal.returns-in-Err
unfolding of_search map_outcome outcome_by route_stored
returns-in-Err c =
    rw (← c.in-Err.ensures) (record { says = rw c.number.ensures at c.refused.ensures; stores = refl })
