-- `passes::forward::forward` meets its contract. The loop's invariant: the sets through the beat at hand are what the start reaches. The
-- measure is what is left of the beats. Assumes nothing.
use Prim.Native.Nat.{◌≤◌}
use mathlib.Core.Path.{sym, ◌∙◌}
use borrow.Author.Tests.{not-true, not-false}
use Rattle.layers.specs.Step.{Within}
use Rattle.passes.proofs.HoldLaws.{held_upto}
use Rattle.passes.proofs.PassLaws.{reached_none, reached_more, reached_fewer, found_nothing, found_least}
use native.Mathlib.Omega.{arith}
use Rattle.passes.proofs.forward.forward.Goals as goal

pub put_alone-requires : goal.put_alone-requires
put_alone-requires c =
    let p = c.requires in
    (p.grid.0, p.tidy.0, omega arith, p.grid.2)

pub loop-g-init : goal.loop-g-init
loop-g-init c =
    let e = c.put_alone.ensures in
    (omega arith, reached_none _ _ _ _ _ e.only e.alone)

pub arrives-requires : goal.arrives-requires
arrives-requires c =
    let p = c.requires.grid in
    let v = c.loop-g.invariant in
    (p.0, v.1.tidy.long, omega (arith, v.0, p.1), p.3)

pub shape_of-sets-then-t-g : goal.shape_of-sets-then-t-g
shape_of-sets-then-t-g c =
    c.loop-g.invariant.1.tidy.long ∙ sym c.requires.tidy.0.long

pub returns-then-t-g : goal.returns-then-t-g
returns-then-t-g c =
    let v = c.loop-g.invariant in
    let e = sym c.arrives.ensures ∙ not-true _ c.loop-g-test.true-raw in record {
      reached = λ n h l. reached_fewer _ _ _ _ _ _ (omega (arith, c.if-t-g.true)) v.1;
      found = found_nothing _ _ _ _ _ _ v.1 v.0 c.requires.tidy.2 c.if-t-g.true e;
    }

pub beats_after-n-requires : goal.beats_after-n-requires
beats_after-n-requires c =
    (omega (arith, c.loop-g.invariant.0, c.if-t-g.false), c.nearest-near.ensures, c.requires.grid.1)

pub propagate-requires : goal.propagate-requires
unfolding Within
propagate-requires c =
    let p = c.requires in
    let table = p.tidy.1 in
    (c.loop-g.invariant.1.tidy.long, table.long, table.empty, omega (arith, c.beats_after-n.ensures.1, p.grid.1))

pub loop-g-preserved : goal.loop-g-preserved
loop-g-preserved c =
    let p = c.requires in
    let v = c.loop-g.invariant in (
      c.beats_after-n.ensures.1,
      reached_more _ _ _ _ _ _ _ v.1 (c.propagate.ensures c.args.g p.grid.0 v.1.tidy p.tidy.1),
    )

pub first_arrival-requires : goal.first_arrival-requires
first_arrival-requires c =
    let p = c.requires.grid in
    let v = c.loop-g.invariant in
    (p.0, v.1.tidy.long, omega (arith, v.0, p.1), p.3)

pub shape_of-sets : goal.shape_of-sets
shape_of-sets c =
    c.loop-g.invariant.1.tidy.long ∙ sym c.requires.tidy.0.long

pub returns : goal.returns
returns c =
    let v = c.loop-g.invariant in
    let e = sym c.arrives.ensures ∙ not-false _ c.loop-g-test.false-raw in
    let f = c.first_arrival.ensures in
    let upto : c.first_arrival.result ≤ c.loop-g.t = rw f (held_upto _ _) in record {
      reached = λ n h l. reached_fewer _ _ _ _ _ _ (omega (arith, h, upto)) v.1;
      found = rw f (found_least _ _ _ _ _ _ v.1 v.0 c.requires.tidy.2 e);
    }
