use Prim.Native.Nat.{◌≤◌}
use Rattle.sheet.specs.Text.{lines_of}
use Rattle.reporting.specs.Put.{PutAt}
use Rattle.stranded.specs.Text.{carrier_text}
use Rattle.stranded.proofs.put_carriers.Given as goal

abbrev pub invariant-loop-i : goal.invariant-loop-i
invariant-loop-i l = (l.i ≤ l.n) × PutAt (lines_of (carrier_text l.plan.floor l.plan.walls.now) l.i) l.initial.out 0 l.out l.at
