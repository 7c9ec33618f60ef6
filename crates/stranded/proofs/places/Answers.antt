-- `stranded::places` meets its contract: the cells of the carriers passed are filled.
use mathlib.Core.Path.{refl}
use Rattle.stranded.specs.Inner.{places_in}
use Rattle.stranded.proofs.StrandedLaws.{places_more, places_end}
use borrow.Author.Rules.{rules}
use Rattle.stranded.proofs.places.Goals as goal

pub loop-k-init : goal.loop-k-init
unfolding places_in
loop-k-init c = (search rules, refl)

pub loop-k-preserved : goal.loop-k-preserved
loop-k-preserved c =
    (search rules, places_more _ _ _ _ _ c.loop-k.invariant.1 c.place.ensures)

pub returns : goal.returns
returns c =
    places_end _ _ _ _ _ c.loop-k.invariant.0 c.loop-k-test.false c.loop-k.invariant.1
