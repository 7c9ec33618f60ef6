-- `canvas::ground::put_docks` meets its contract: the text stays in its memory.
use mathlib.Core.Path.{◌≡◌}
use lib.ListN.{length}
use Rattle.canvas.proofs.ground.put_docks.Given as goal

abbrev pub invariant-loop-p : goal.invariant-loop-p
invariant-loop-p l =
    (l.out.bytes.ghost_name ≡ l.initial.out.bytes.ghost_name) × (length l.out.bytes.now ≡ length l.initial.out.bytes.now)
