-- `route::arrival` meets its contract. The loop's invariant: `a` is `settled` over the beats passed, and at most their
-- number. Assumes nothing.
use mathlib.Core.Path.{refl, ◌∙◌}
use native.Mathlib.Omega.{arith}
use borrow.Author.Rules.{rules}
use Rattle.route.specs.Arrival.{settled}
use Rattle.route.proofs.LoopLaws.{settled_turn_away, settled_turn_there, settled_ends}
use Rattle.route.proofs.arrival.Goals as goal
use Rattle.route.proofs.arrival.Goals.{then-r-t, else-r-t}

pub loop-t-init : goal.loop-t-init
unfolding settled
loop-t-init c = (search rules, refl)

pub loop-t-preserved : goal.loop-t-preserved
loop-t-preserved c =
    elim c.if-r-t.branch [
      | then-r-t w ↦ (search rules, w.a-is ∙ settled_turn_away _ _ _ w.if-r-t.true)
      | else-r-t w ↦ (search rules, w.a-is ∙ c.loop-t.invariant.1 ∙ settled_turn_there _ _ _ w.if-r-t.false)
    ]

pub returns : goal.returns
returns c =
    settled_ends _ _ _ _ _ _ refl (omega arith) c.loop-t-test.false c.last_beat-last.ensures.0
    c.loop-t.invariant.1
