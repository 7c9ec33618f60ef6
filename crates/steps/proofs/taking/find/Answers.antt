-- `steps::taking::find` meets its contract: the views of carrier i are one part of the state, and the search looks at just these.
use mathlib.Core.Path.{sym}
use Rattle.steps.proofs.ViewLaws.{slice_long, slice_best}
use Rattle.steps.proofs.PlacedLaws.{placed_sized, placed_searchable}
use native.Mathlib.Omega.{arith}
use Rattle.steps.proofs.taking.find.Goals as goal

pub views_start-a-requires : goal.views_start-a-requires
views_start-a-requires c = (c.requires.i_lt_carriers, (placed_sized c.requires.workable.placed).0)

pub views_end-e-requires : goal.views_end-e-requires
views_end-e-requires c = (c.requires.i_lt_carriers, (placed_sized c.requires.workable.placed).0)

pub best_route-requires : goal.best_route-requires
best_route-requires c =
    let w = c.requires.workable in
    let a = c.views_start-a.ensures in
    let e = c.views_end-e.ensures in
    placed_searchable _ w _ _ c.requires.i_lt_carriers
    (slice_long c.args.m.now c.views_start-a.result c.views_end-e.result c.args.i
    (omega (arith, a, e)) (omega (arith, e, w.placed.enough)))

pub returns : goal.returns
returns c =
    let w = c.requires.workable in
    let a = c.views_start-a.ensures in
    let e = c.views_end-e.ensures in
    rw (sym (slice_best c.args.f c.args.walls.now c.args.free c.args.m.now c.args.i
    c.views_start-a.result c.views_end-e.result w.free a.0 (omega (arith, a, e))
    (omega (arith, e, w.placed.enough)))) c.best_route.ensures
