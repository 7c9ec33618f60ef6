use Rattle.layers.specs.FreeTable.{FreeBeats}
use Rattle.layers.proofs.free_table.fill_free.Given as goal

abbrev pub invariant-loop-t : goal.invariant-loop-t
invariant-loop-t l = FreeBeats l.free l.t l.table
