use Prim.Native.Nat.{◌+◌, ◌*◌}
use mathlib.Core.Path.{◌≡◌}
use lib.ListN.{length, get_or}
use Rattle.layers.specs.declared.SearchGrid.{SearchGrid}
use Rattle.layers.specs.Table.{Grid, Tidy}
use Rattle.layers.specs.Stripes.{stripes_of}
use Rattle.layers.specs.Step.{beat_after, Swept}
use Rattle.layers.proofs.step.propagate.Given as goal

abbrev pub invariant-loop : goal.invariant-loop
invariant-loop l =
    (l.t ≡ beat_after l.back l.from l.counter) × (length l.sets ≡ 2049) × (l.x ≡ stripes_of (λ j. get_or l.sets (l.t * 32 + j) 0)) ×
    ((g : SearchGrid) → Grid g → Tidy g l.initial.sets → Tidy g l.table → Swept g l.table l.initial.sets l.from l.back l.counter l.sets)
