use Rattle.layers.specs.FreeTable.{IsFreeTable}
use Rattle.layers.proofs.free_table.make.Given as goal

abbrev pub invariant-loop-j : goal.invariant-loop-j
invariant-loop-j l = IsFreeTable l.g l.j l.free l.views l.table
