-- `machine::runs::run_all` meets its contract: what is left of the list leads where the whole run leads.
use Rattle.machine.proofs.RunLaws.{running_start, running_more, running_spent, running_end, tried_one}
use mathlib.Core.Path.{◌≡◌}
use lib.ListN.{length}
use native.Mathlib.Omega.{arith}
use Rattle.machine.proofs.runs.run_all.Goals as goal

pub loop-read-init : goal.loop-read-init
loop-read-init c = (omega arith, running_start _ _ _ _)

pub returns-then-taken-budget : goal.returns-then-taken-budget
returns-then-taken-budget c = running_spent _ _ _ _ _ _ _ c.loop-read-test.true c.loop-read.invariant.0 c.if-taken-budget.true
    c.loop-read.invariant.1

pub try_step-requires : goal.try_step-requires
try_step-requires c =
    let placed = c.requires.placed in
    let kept = c.loop-read.invariant.1.kept in
    record {
      placed = record { accepted = placed.accepted; enough = omega (arith, kept, placed.enough) };
      free = c.requires.free;
    }

pub loop-read-preserved : goal.loop-read-preserved
loop-read-preserved c =
    let one = tried_one _ c.from-taken.ensures in (
      omega (arith, one, c.if-taken-budget.false),
      running_more _ _ _ _ _ _ _ _ _ c.loop-read-test.true c.if-taken-budget.false c.try_step.auto.m c.loop-read.invariant.1
          c.try_step.ensures c.from-taken.ensures,
    )

pub returns : goal.returns
returns c =
    let same : c.loop-read.read ≡ length c.args.numbers.now = omega arith in
    rw same at (running_end _ _ _ _ _ _ _ c.loop-read-test.false c.loop-read.invariant.0 c.loop-read.invariant.1)
