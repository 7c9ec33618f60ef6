use Prim.Native.Nat.{◌≤◌}
use Rattle.sheet.specs.Text.{lines_of}
use Rattle.reporting.specs.Put.{PutAt}
use Rattle.maps.specs.Map.{letter_line}
use Rattle.maps.proofs.put_letters.Given as goal

abbrev pub invariant-loop-c : goal.invariant-loop-c
invariant-loop-c l = (l.c ≤ l.n) × PutAt (lines_of (letter_line l.f) l.c) l.initial.out l.at l.out l.end
