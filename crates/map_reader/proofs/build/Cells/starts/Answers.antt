-- `map_reader::build::Cells::starts` meets its contract: the places passed are filled.
use mathlib.Core.Path.{◌≡◌}
use lib.ListN.{length-set}
use Rattle.map_reader.proofs.ToldLaws.{fill_start, fill_more}
use native.Mathlib.Omega.{arith}
use borrow.Author.Rules.{rules}
use Rattle.map_reader.proofs.build.Cells.starts.Goals as goal

pub loop-i-init : goal.loop-i-init
loop-i-init c =
    (search rules, search rules, fill_start _ _)

pub loop-i-preserved : goal.loop-i-preserved
loop-i-preserved c =
    let l = c.loop-i.invariant in (
      omega (arith, c.loop-i-test.true),
      simp length-set l.1,
      fill_more _ _ _ _ l.2 c.nth.ensures (omega (arith, l.1, c.loop-i-test.true)),
    )

pub returns : goal.returns
returns c =
    let l = c.loop-i.invariant in
    let same : c.loop-i.i ≡ 8 = omega (arith, l.0, c.loop-i-test.false) in
    rw same at l.2
