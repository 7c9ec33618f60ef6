use mathlib.Core.Path.{◌≡◌}
use lib.ListN.{get_or, replicate}
use Rattle.bitrows.specs.Rows.{filled}
use Rattle.layers.specs.Table.{row_of}
use Rattle.layers.proofs.free_table.striped.Given as goal

abbrev pub invariant-loop-j : goal.invariant-loop-j
invariant-loop-j l = l.x ≡ filled (replicate 32 0) (λ i. get_or l.rows (row_of i) 0) l.j
