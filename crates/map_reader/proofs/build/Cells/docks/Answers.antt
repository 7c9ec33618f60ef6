-- `map_reader::build::Cells::docks` meets its contract: the places passed are filled.
use mathlib.Core.Path.{◌≡◌}
use lib.ListN.{length-set}
use Rattle.map_reader.proofs.ToldLaws.{fill_start, fill_more}
use native.Mathlib.Omega.{arith}
use borrow.Author.Rules.{rules}
use Rattle.map_reader.proofs.build.Cells.docks.Goals as goal

pub loop-p-init : goal.loop-p-init
loop-p-init c =
    (search rules, search rules, fill_start _ _)

pub loop-p-preserved : goal.loop-p-preserved
loop-p-preserved c =
    let l = c.loop-p.invariant in (
      omega (arith, c.loop-p-test.true),
      simp length-set l.1,
      fill_more _ _ _ _ l.2 c.nth.ensures (omega (arith, l.1, c.loop-p-test.true)),
    )

pub returns : goal.returns
returns c =
    let l = c.loop-p.invariant in
    let same : c.loop-p.p ≡ 32 = omega (arith, l.0, c.loop-p-test.false) in
    rw same at l.2
