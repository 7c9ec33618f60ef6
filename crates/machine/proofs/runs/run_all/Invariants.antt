use Prim.Native.Nat.{◌≤◌}
use Rattle.encoding.specs.Calls.{machine_of}
use Rattle.machine.specs.Inner.{Running}
use Rattle.machine.proofs.runs.run_all.Given as goal

abbrev pub invariant-loop-read : goal.invariant-loop-read
invariant-loop-read l =
    (l.taken ≤ l.budget) × Running (machine_of l.f l.walls) l.initial.m l.numbers l.budget l.m l.read l.taken
