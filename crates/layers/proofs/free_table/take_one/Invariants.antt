use Rattle.layers.specs.FreeTable.{TakenBeats}
use Rattle.layers.proofs.free_table.take_one.Given as goal

abbrev pub invariant-loop-t : goal.invariant-loop-t
invariant-loop-t l = TakenBeats l.g l.views l.j l.t l.initial.table l.table
