-- `floor::checks::in_order` meets its contract: invariant: the items passed pass the test.
use Rattle.laws.proofs.VerdictLaws.{each_none, tests_go_on, tests_stop, each_end}
use native.Mathlib.Omega.{arith}
use Rattle.floor.specs.Answers.{verdict_of}
use Rattle.floor.proofs.checks.in_order.Goals as goal

pub loop-i-init : goal.loop-i-init
loop-i-init g c = λ ok says. each_none _ _ ok

pub returns-then-not-passes : goal.returns-then-not-passes
unfolding verdict_of
returns-then-not-passes g c = λ ok says.
    tests_stop _ _ ok _ _ (c.loop-i.invariant ok says) (says _ _ c.loop-i-test.true c.passes.ensures) c.if-not-passes.true-raw
    c.loop-i-test.true

pub loop-i-preserved : goal.loop-i-preserved
loop-i-preserved g c = λ ok says.
    tests_go_on _ _ ok _ (c.loop-i.invariant ok says) (says _ _ c.loop-i-test.true c.passes.ensures) c.if-not-passes.false-raw

pub returns : goal.returns
unfolding verdict_of
returns g c = λ ok says. each_end _ _ ok _ _ (omega arith) (omega arith) (c.loop-i.invariant ok says)
