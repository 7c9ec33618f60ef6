-- `sheet::lines::walls_at` meets its contract: invariant: the column is the next line's.
use Rattle.sheet.proofs.DockLaws.{carrier_first, carrier_next}
use native.Mathlib.Omega.{arith}
use borrow.Author.Rules.{rules}
use Rattle.sheet.proofs.lines.walls_at.Goals as goal

pub loop-i-init : goal.loop-i-init
loop-i-init c = search (rules, carrier_first)

pub loop-i-preserved : goal.loop-i-preserved
loop-i-preserved c = (
  carrier_next _ _ _ _ c.loop-i.invariant.0 c.dock_count.ensures.0,
  omega (arith, c.loop-i.invariant.1, c.dock_count.ensures.1),
)
