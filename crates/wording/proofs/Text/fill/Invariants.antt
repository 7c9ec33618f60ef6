-- `wording::Text::fill` meets its contract: the text stays in its memory.
use mathlib.Core.Path.{◌≡◌}
use lib.ListN.{length}
use Rattle.wording.proofs.Text.fill.Given as goal

abbrev pub invariant-loop-byte : goal.invariant-loop-byte
invariant-loop-byte l =
    (l.self.bytes.ghost_name ≡ l.initial.self.bytes.ghost_name) × (length l.self.bytes.now ≡ length l.initial.self.bytes.now)
