use Rattle.sheet.specs.Text.{lines_of, carrier_line, carrier_at}
use Rattle.laws.specs.Memory.{put}
use mathlib.Core.Path.{◌≡◌}
use Rattle.sheet.proofs.lines.put_carriers.Given as goal

abbrev pub invariant-loop-i : goal.invariant-loop-i
invariant-loop-i l = (l.at ≡ carrier_at l.f l.i) × (l.out ≡ put l.initial.out (carrier_at l.f 0) (lines_of (carrier_line l.f) l.i))
