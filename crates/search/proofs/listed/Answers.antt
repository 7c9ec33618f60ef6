-- `search::listed` meets its contract. One return a case. Assumes nothing.
use mathlib.Core.Logic.{⊎_elim}
use borrow.Author.Tests.{lt-leb, le-leb}
use Prim.Native.Nat.{◌≤◌, ◌<◌}
use Rattle.floor.specs.Checks.{within}
use Rattle.floor.specs.Answers.{verdict_of}
use Rattle.laws.specs.Verdict.{demand}
use Rattle.search.proofs.listed.Goals as goal

pub returns-then-carrier-lt1 : goal.returns-then-carrier-lt1
unfolding verdict_of demand within
returns-then-carrier-lt1 c =
    ⊎_elim (λ (l : c.args.carrier < 1). rw (lt-leb _ _ l))
    (λ (l : (1 ≤ c.args.carrier) × (c.args.f.carriers < c.args.carrier)). rw (le-leb _ _ l.0, lt-leb _ _ l.1)) c.then-carrier-lt1.either

pub returns : goal.returns
unfolding verdict_of demand within
returns c = rw (le-leb _ _ c.if-carrier-lt1.false, le-leb _ _ c.if-f-carrier.false)
