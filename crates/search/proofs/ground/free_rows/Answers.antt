-- `search::ground::free_rows` meets its contract. The loop's invariant: the walls passed, from the first on and from the last back, are out
-- of the grid's rows. Assumes nothing.
use Prim.Native.Nat.{◌*◌, ◌≤◌}
use native.Mathlib.Omega.{arith}
use Rattle.layers.proofs.GridLaws.{grid_low}
use Rattle.search.proofs.GroundLaws.{both_out}
use Rattle.search.proofs.RowsFree.{grid_walls, free_rows_made}
use Rattle.search.proofs.ground.free_rows.Goals as goal
use Rattle.search.proofs.ground.free_rows.Goals.{Start}

-- The grid's rows have room for its cells.
low : (c : Start) → c.args.f.width * c.args.f.height ≤ 32 * c.args.f.width
low c = grid_low c.args.f.width c.args.f.height c.requires.le_width.2

pub loop-j-init : goal.loop-j-init
loop-j-init c =
    let p = c.requires.le_width in grid_walls _ _ p.2 _ _ _ _ (omega arith) p.0 c.grid_rows-rows.ensures.0

pub loop-j-preserved : goal.loop-j-preserved
loop-j-preserved c =
    both_out _ _ c.requires.le_width.0 (low (goal.at.loop-j-preserved c).Start) _ _ c.loop-j.j _ _ _ (omega arith) c.loop-j.invariant
    c.drop_at.ensures c.drop_at-in-loop-j.ensures

pub returns : goal.returns
returns c = free_rows_made _ _ _ _ _ (omega arith) c.loop-j.invariant
