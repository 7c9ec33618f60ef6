-- `canvas::ground::put_labels` meets its contract: the text stays in its memory.
use mathlib.Core.Path.{◌≡◌}
use lib.ListN.{length}
use Rattle.canvas.proofs.ground.put_labels.Given as goal

abbrev pub invariant-loop-k : goal.invariant-loop-k
invariant-loop-k l =
    (l.out.bytes.ghost_name ≡ l.initial.out.bytes.ghost_name) × (length l.out.bytes.now ≡ length l.initial.out.bytes.now)

abbrev pub invariant-loop-k-2 : goal.invariant-loop-k-2
invariant-loop-k-2 l =
    (l.out.bytes.ghost_name ≡ l.initial.out.bytes.ghost_name) × (length l.out.bytes.now ≡ length l.initial.out.bytes.now)
