-- `planner::take_last` meets its contract: of no carriers the table stays, else the view of the last is taken out. Assumes nothing.
use Prim.Native.Nat.{◌+◌, ◌-◌}
use native.Mathlib.Omega.{arith}
use mathlib.Core.Path.{◌≡◌}
use Rattle.layers.specs.Table.{search_grid_of}
use Rattle.layers.proofs.GridLaws.{scene_grid}
use Rattle.planner.proofs.take_last.Goals as goal

pub take_one-requires : goal.take_one-requires
unfolding search_grid_of
take_one-requires c =
    let p = c.requires in
    rw c.search_grid_of.ensures
    (scene_grid c.args.f p.le_width.0 p.le_width.1 p.le_width.2, omega (arith, p.i_in_bounds.0), p.le_width.3, p.i_in_bounds.1)

pub returns : goal.returns
returns c =
    let e : c.args.i - 1 + 1 ≡ c.args.i = omega arith in
    let more = rw c.search_grid_of.ensures at c.take_one.ensures in
    λ free old. rw e at (more free old)
