use Prim.Native.Nat.{◌≤◌}
use Rattle.sheet.specs.Text.{lines_of}
use Rattle.reporting.specs.Put.{PutAt}
use Rattle.records.specs.Records.{answer_in}
use Rattle.frames.specs.Text.{arrival_line}
use Rattle.frames.proofs.lines.put_arrivals.Given as goal

abbrev pub invariant-loop-i : goal.invariant-loop-i
invariant-loop-i l = (l.i ≤ l.n) × PutAt (lines_of (arrival_line l.f (answer_in l.own)) l.i) l.initial.out l.at l.out l.end
