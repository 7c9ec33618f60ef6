-- `records::view_cell` meets its contract. The record has a route or not. Assumes nothing.
use Prim.Native.Nat.{◌*◌, ◌+◌}
use native.Mathlib.Omega.{arith}
use Rattle.records.proofs.CellLaws.{cell_route, cell_none}
use Rattle.records.proofs.view_cell.Goals as goal

pub overflow_cast-result : goal.overflow_cast-result
overflow_cast-result c =
    omega (arith, c.shared_slice_known-then-views-j-eq2-1.given (65 * c.args.j + 1 + c.args.t))

pub returns-then-views-j-eq2 : goal.returns-then-views-j-eq2
returns-then-views-j-eq2 c = (
  cell_route _ _ _ c.if-views-j-eq2.true,
  omega
      (arith, c.shared_slice_known-then-views-j-eq2-1.given (65 * c.args.j + 1 + c.args.t)),
)

pub returns : goal.returns
returns c = (cell_none _ _ _ c.if-views-j-eq2.false, omega arith)
