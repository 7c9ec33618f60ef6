-- `passes::docks::arrives` meets its contract. The loop's invariant: none of the docks passed is an arrival.
-- Assumes nothing.
use mathlib.Core.Path.{sym, ◌∙◌}
use Rattle.passes.specs.Docks.{held_at, arrivable_at, arrivable}
use Rattle.passes.proofs.AnyLaws.{any_start, any_more, any_stop, any_end}
use native.Mathlib.Omega.{arith}
use Rattle.passes.proofs.docks.arrives.Goals as goal

pub loop-d-init : goal.loop-d-init
loop-d-init c = any_start _ _

pub bounds-ds-d : goal.bounds-ds-d
bounds-ds-d c =
    omega (arith, c.loop-d-test.true, c.requires.3.few)

pub bounds-ds-d-in-loop-d : goal.bounds-ds-d-in-loop-d
bounds-ds-d-in-loop-d c =
    omega (arith, c.loop-d-test.true, c.requires.3.few)

pub arrives_at-requires : goal.arrives_at-requires
arrives_at-requires c =
    let p = c.requires in
    (p.0, p.1, p.2, p.3.inside _ c.loop-d-test.true)

pub returns-then-arrives_at : goal.returns-then-arrives_at
unfolding arrivable arrivable_at held_at
returns-then-arrives_at c =
    any_stop _ c.loop-d-test.true (sym c.arrives_at.ensures ∙ c.if-arrives_at.true)

pub loop-d-preserved : goal.loop-d-preserved
unfolding arrivable_at held_at
loop-d-preserved c =
    any_more c.loop-d.invariant c.loop-d-test.true (sym c.arrives_at.ensures ∙ c.if-arrives_at.false)

pub returns : goal.returns
unfolding arrivable
returns c = any_end c.loop-d.invariant c.loop-d-test.false
