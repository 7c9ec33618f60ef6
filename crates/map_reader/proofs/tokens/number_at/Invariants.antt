-- `map_reader::tokens::number_at` meets its contract: the next column is within the text.
use Prim.Native.Nat.{◌≤◌}
use lib.ListN.{length}
use Rattle.map_reader.proofs.tokens.number_at.Given as goal

abbrev pub invariant-loop-k : goal.invariant-loop-k
invariant-loop-k l = l.next ≤ length l.text
