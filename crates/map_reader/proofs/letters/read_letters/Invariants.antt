use Prim.Native.Nat.{◌≤◌}
use lib.ListN.{length}
use Rattle.map_reader.proofs.letters.read_letters.Given as goal

abbrev pub invariant-loop-k : goal.invariant-loop-k
invariant-loop-k l = l.at ≤ length l.text
