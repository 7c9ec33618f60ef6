-- `sheet::values::docks` meets its contract: invariant: the places passed hold their cells, the others 0.
use Rattle.sheet.proofs.ListedLaws.{lists, up_to_step}
use native.Mathlib.Omega.{arith}
use Rattle.sheet.proofs.values.docks.Goals as goal

pub loop-k-init : goal.loop-k-init
loop-k-init c = search lists

pub loop-k-preserved : goal.loop-k-preserved
loop-k-preserved c = up_to_step _ _ _ 4 _ (omega (arith, c.loop-k-test.true, c.requires.count_bound.0)) c.loop-k.invariant c.cell.ensures
