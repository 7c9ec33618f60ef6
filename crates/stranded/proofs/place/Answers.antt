-- `stranded::place` meets its contract: by the tag.
use borrow.Author.Tests.{eq-eqb, ne_eqb}
use Rattle.floor.specs.Checks.{start_of}
use Rattle.stranded.specs.Inner.{stranded_cell}
use Rattle.stranded.proofs.place.Goals as goal

pub returns-then-own-k-eq2 : goal.returns-then-own-k-eq2
unfolding stranded_cell
returns-then-own-k-eq2 c = rw (eq-eqb _ _ c.if-own-k-eq2.true)

pub returns : goal.returns
unfolding stranded_cell start_of
returns c =
    rw (ne_eqb _ _ c.if-own-k-eq2.false)
