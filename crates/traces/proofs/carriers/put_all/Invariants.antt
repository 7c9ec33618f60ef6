-- `traces::carriers::put_all` meets its contract: the text stays in its memory, where each call leaves it there.
use mathlib.Core.Path.{◌≡◌}
use lib.ListN.{length}
use Rattle.traces.proofs.carriers.put_all.Given as goal

abbrev pub invariant-loop-place : goal.invariant-loop-place
invariant-loop-place g l =
    (((c : _) (a b : _) → goal.F-post g l.put c a tt b → b.now.bytes.ghost_name ≡ a.now.bytes.ghost_name)
    → l.out.bytes.ghost_name ≡ l.initial.out.bytes.ghost_name)
    × (((c : _) (a b : _) → goal.F-post g l.put c a tt b → length b.now.bytes.now ≡ length a.now.bytes.now)
    → length l.out.bytes.now ≡ length l.initial.out.bytes.now)
