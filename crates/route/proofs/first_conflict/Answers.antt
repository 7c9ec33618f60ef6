-- `route::first_conflict` meets its contract. The loop's invariant: no conflict at the beats passed.
-- Assumes nothing.
use mathlib.Core.Path.{sym, ◌∙◌}
use native.Mathlib.Omega.{arith}
use Rattle.route.specs.ConflictTest.{conflict_told}
use Rattle.route.proofs.LoopLaws.{found_none, found_turn, vertex_found, swap_found, following_found, last_found, found_end}
use Rattle.route.proofs.first_conflict.Goals as goal

pub loop-t-init : goal.loop-t-init
loop-t-init c = found_none _ _ _

pub returns-then-c-x : goal.returns-then-c-x
unfolding conflict_told
returns-then-c-x c =
    rw (← c.last_beat-last.ensures.0) (vertex_found _ _ _ _ c.loop-t.invariant (omega arith) c.if-c-x.true)

pub returns-then-change_places : goal.returns-then-change_places
unfolding conflict_told
returns-then-change_places c =
    rw (← c.last_beat-last.ensures.0)
    (swap_found _ _ _ _ c.loop-t.invariant (omega arith) c.if-c-x.false
    (sym c.change_places.ensures ∙ c.if-change_places.true))

pub returns-then-following : goal.returns-then-following
unfolding conflict_told
returns-then-following c =
    rw (← c.last_beat-last.ensures.0)
    (following_found _ _ _ _ c.loop-t.invariant (omega arith) c.if-c-x.false
    (sym c.change_places.ensures ∙ c.if-change_places.false) (sym c.following.ensures ∙ c.if-following.true))

pub loop-t-preserved : goal.loop-t-preserved
loop-t-preserved c =
    found_turn _ _ _ _ c.loop-t.invariant c.if-c-x.false
    (sym c.change_places.ensures ∙ c.if-change_places.false) (sym c.following.ensures ∙ c.if-following.false)

pub returns-then-r-last : goal.returns-then-r-last
unfolding conflict_told
returns-then-r-last c =
    rw (← c.last_beat-last.ensures.0)
    (last_found _ _ _ _ c.loop-t.invariant (omega arith) c.loop-t-test.false c.if-r-last.true)

pub returns : goal.returns
unfolding conflict_told
returns c =
    rw (← c.last_beat-last.ensures.0)
    (found_end _ _ _ _ c.loop-t.invariant (omega arith) c.loop-t-test.false c.if-r-last.false)
