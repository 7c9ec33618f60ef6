use Prim.Native.Nat.{◌≤◌}
use Rattle.sheet.specs.Text.{lines_of}
use Rattle.reporting.specs.Put.{PutAt}
use Prim.Native.Nat.{ℕ}
use Rattle.records.specs.Records.{answer_in}
use Rattle.frames.specs.Text.{present_of}
use Rattle.frames.proofs.cells.put_carriers.Given as goal

abbrev pub invariant-loop-i : goal.invariant-loop-i
invariant-loop-i l = (l.i ≤ l.n) × PutAt (lines_of (λ (j : ℕ). present_of l.f l.t l.c j (answer_in l.own j)) l.i) l.initial.out 0 l.out l.end
