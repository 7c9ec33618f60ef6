use Rattle.floor.specs.Checks.{dock_of}
use Rattle.sheet.specs.Text.{lines_of}
use Rattle.sheet.proofs.DockLaws.{cell_text}
use Rattle.laws.specs.Memory.{put}
use mathlib.Core.Path.{◌≡◌}
use Prim.Native.Nat.{ℕ}
use Rattle.sheet.proofs.lines.put_docks.Given as goal

abbrev pub invariant-loop-k : goal.invariant-loop-k
invariant-loop-k l = l.out ≡ put l.initial.out l.at (lines_of (λ (p : ℕ). cell_text l.width (dock_of l.f l.i p)) l.k)
