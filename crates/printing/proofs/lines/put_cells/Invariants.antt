use Rattle.printing.specs.Text.{fields_of}
use Rattle.laws.specs.Memory.{put}
use lib.ListN.{length, take}
use mathlib.Core.Path.{◌≡◌}
use Rattle.printing.proofs.lines.put_cells.Given as goal

abbrev pub invariant-loop-t : goal.invariant-loop-t
invariant-loop-t l = (length l.cells ≡ 64) × (l.out ≡ put l.initial.out l.at (fields_of (take l.t (take l.n l.cells))))
