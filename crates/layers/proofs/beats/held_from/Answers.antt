-- `layers::beats::held_from` meets its contract. The loop's invariant: the numbers passed pass the test.
use Prim.Native.Nat.{◌<◌, ◌-◌}
use native.Mathlib.Omega.{arith}
use native.Mathlib.Nat.{eq-or-lt_of_le}
use mathlib.Core.Logic.{⊎_elim}
use mathlib.Core.Path.{◌≡◌}
use Rattle.layers.proofs.beats.held_from.Goals as goal

pub loop-t-init : goal.loop-t-init
loop-t-init g c = λ t l h. absurd (omega arith)

pub returns-then-not-test-clause-held : goal.returns-then-not-test-clause-held
returns-then-not-test-clause-held g c = λ t l h. c.loop-t.invariant t (omega (arith, c.loop-t-test.true)) h

pub loop-t-preserved : goal.loop-t-preserved
loop-t-preserved g c =
    λ t l h.
    ⊎_elim (λ (s : c.loop-t.t - 1 ≡ t). rw (← s) (rw c.if-not-test.false at c.test.ensures))
    (λ (s : c.loop-t.t - 1 < t). c.loop-t.invariant t (omega arith) h) (eq-or-lt_of_le l)

pub returns-clause-held : goal.returns-clause-held
returns-clause-held g c = λ t l h. c.loop-t.invariant t (omega arith) h
