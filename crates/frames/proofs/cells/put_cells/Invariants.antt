use Prim.Native.Nat.{◌≤◌}
use Rattle.sheet.specs.Text.{lines_of}
use Rattle.reporting.specs.Put.{PutAt}
use Prim.Native.Nat.{ℕ}
use mathlib.Core.List.{[], ◌∷◌}
use Rattle.records.specs.Records.{answer_in}
use Rattle.frames.specs.Text.{frame_mark}
use Rattle.frames.proofs.cells.put_cells.Given as goal

abbrev pub invariant-loop-c : goal.invariant-loop-c
invariant-loop-c l =
    (l.c ≤ 1024) × PutAt (lines_of (λ (d : ℕ). frame_mark l.scene.floor l.scene.walls.now (answer_in l.scene.own.now) l.t d ∷ []) l.c) l.initial.out 0 l.out l.at
