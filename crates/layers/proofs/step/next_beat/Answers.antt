-- `layers::step::next_beat` meets its contract. Assumes nothing.
use native.Mathlib.Omega.{arith}
use mathlib.Core.Path.{refl}
use Rattle.layers.specs.Step.{beat_after}
use Rattle.layers.proofs.step.next_beat.Goals as goal

pub overflow_sub-result : goal.overflow_sub-result
overflow_sub-result c =
    omega (arith, c.requires.1 c.if-back.true)

pub returns-then-back : goal.returns-then-back
unfolding beat_after
returns-then-back c =
    rw c.if-back.true refl

pub returns-else-back : goal.returns-else-back
unfolding beat_after
returns-else-back c =
    rw c.if-back.false refl
