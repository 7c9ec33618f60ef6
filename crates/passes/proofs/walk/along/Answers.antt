-- `passes::walk::along` meets its contract. The loop's invariant: the place is that of the path's cell at the beat, and the route has the
-- cells passed. Assumes nothing.
use native.Mathlib.Omega.{arith}
use mathlib.Core.Path.{◌≡◌, refl}
use Rattle.bitrows.proofs.FillLaws.{filled_none, filled_more}
use Rattle.passes.specs.Walk.{path_of}
use Rattle.passes.proofs.NextLaws.{place_cell, next_low, path_more}
use Rattle.passes.proofs.walk.along.Goals as goal

pub overflow_cast-r : goal.overflow_cast-r
overflow_cast-r c =
    omega (arith, c.requires.0.low, c.requires.0.narrow, c.requires.3)

pub loop-t-init : goal.loop-t-init
unfolding path_of
loop-t-init c =
    (c.requires.3, c.place_of-p.ensures, filled_more _ _ 0 _ _ (filled_none _ _) refl)

pub next-p-requires : goal.next-p-requires
next-p-requires c =
    let p = c.requires in
    let at = c.loop-t.invariant.1 in
    (p.0, p.1, omega (arith, p.2, c.loop-t-test.true), at.low, at.thin)

pub overflow_mul-r : goal.overflow_mul-r
overflow_mul-r c =
    let v = c.loop-t.invariant in
    omega (arith, next_low _ _ 0 0 _ _ _ c.requires.0 v.0 (c.next-p.ensures _ v.1))

pub overflow_add-r : goal.overflow_add-r
overflow_add-r c =
    let v = c.loop-t.invariant in
    omega (arith, next_low _ _ 0 0 _ _ _ c.requires.0 v.0 (c.next-p.ensures _ v.1))

pub overflow_cast-r-in-loop-t : goal.overflow_cast-r-in-loop-t
overflow_cast-r-in-loop-t c =
    let v = c.loop-t.invariant in
    omega (arith, next_low _ _ 0 0 _ _ _ c.requires.0 v.0 (c.next-p.ensures _ v.1))

pub loop-t-preserved : goal.loop-t-preserved
loop-t-preserved c =
    let v = c.loop-t.invariant in
    let more = path_more _ _ _ _ _ _ c.requires.0 c.loop-t-test.true v.0 (c.next-p.ensures _ v.1) in
    (more.0, more.1, filled_more _ _ _ _ _ v.2 (place_cell _ _ _ more.1))

pub returns : goal.returns
returns c =
    let e : c.loop-t.t ≡ c.args.a = omega arith in
    rw e at c.loop-t.invariant.2
