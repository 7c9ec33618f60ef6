use Rattle.printing.specs.Put.{LinesPut}
use Rattle.printing.proofs.lines.put_answers.Given as goal

abbrev pub invariant-loop-i : goal.invariant-loop-i
invariant-loop-i l = LinesPut l.f l.answers l.initial.out l.i l.out l.at
