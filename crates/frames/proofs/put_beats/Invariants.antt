use Prim.Native.Nat.{◌≤◌}
use Rattle.sheet.specs.Text.{lines_of}
use Rattle.reporting.specs.Put.{PutAt}
use Prim.Native.Nat.{ℕ}
use mathlib.Core.List.{◌++◌, ◌∷◌, []}
use Rattle.records.specs.Records.{answer_in}
use Rattle.frames.specs.Text.{frame_of}
use Rattle.frames.proofs.put_beats.Given as goal

abbrev pub invariant-loop-t : goal.invariant-loop-t
invariant-loop-t l =
    (l.t ≤ l.n) × PutAt (lines_of (λ (u : ℕ). (10 ∷ []) ++ frame_of l.scene.floor l.scene.walls.now (answer_in l.scene.own.now) u) l.t) l.initial.out l.at l.out l.end
