-- `traces::beats::put_points` meets its contract: the text stays in its memory.
use mathlib.Core.Path.{◌≡◌}
use lib.ListN.{length}
use Rattle.traces.proofs.beats.put_points.Given as goal

abbrev pub invariant-loop-t : goal.invariant-loop-t
invariant-loop-t l =
    (l.out.bytes.ghost_name ≡ l.initial.out.bytes.ghost_name) × (length l.out.bytes.now ≡ length l.initial.out.bytes.now)
