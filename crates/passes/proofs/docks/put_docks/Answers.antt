-- `passes::docks::put_docks` meets its contract. The loop's invariant: the set of the beat has the docks passed that can be held, and the
-- other sets are as they were. Assumes nothing.
use mathlib.Core.Path.{sym, ◌∙◌}
use Rattle.passes.proofs.EndsLaws.{ends_none, ends_end, changed_none, changed_twice}
use native.Mathlib.Omega.{arith}
use Rattle.passes.proofs.docks.put_docks.Goals as goal

pub loop-d-init : goal.loop-d-init
loop-d-init c =
    let e = c.put_none.ensures in
    (changed_none e.only.tidy, ends_none _ _ _ _ e.none)

pub put_dock-requires : goal.put_dock-requires
put_dock-requires c =
    let p = c.requires in
    (p.0, c.loop-d.invariant.0.tidy, p.2, p.3, c.loop-d-test.true)

pub loop-d-preserved : goal.loop-d-preserved
loop-d-preserved c =
    let i = c.loop-d.invariant in
    let e = c.put_dock.ensures in
    (changed_twice i.0 e.only, e.more i.1)

pub shape_of-sets : goal.shape_of-sets
shape_of-sets c =
    c.loop-d.invariant.0.tidy.long ∙ sym c.requires.1.long

pub returns : goal.returns
returns c =
    let i = c.loop-d.invariant in record {
      only = changed_twice c.put_none.ensures.only i.0;
      ends = ends_end _ _ _ _ _ _ (omega arith) c.loop-d-test.false i.1;
    }
