-- `kalomivund_search` meets its contract: the search on the floor that the numbers say, packed, or no room for its route.
use Rattle.kalomivund.proofs.EntryLaws.{too_short}
use Rattle.kalomivund.proofs.SearchLaws.{search_lent_lem}
use Rattle.kalomivund.specs.Entries.{search_word, search_stored}
use Rattle.kalomivund.proofs.kalomivund_search.Goals as goal

pub returns-then-f-lt54 : goal.returns-then-f-lt54
unfolding search_word search_stored
returns-then-f-lt54 c = search too_short

pub returns-then-route-lt64 : goal.returns-then-route-lt64
unfolding search_word search_stored
returns-then-route-lt64 c = rw (← c.floor_of-found.ensures) (search search_lent_lem)

pub returns : goal.returns
unfolding search_word search_stored
returns c = rw (← c.floor_of-found.ensures) (search search_lent_lem)
